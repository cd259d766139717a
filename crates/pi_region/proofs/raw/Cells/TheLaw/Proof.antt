-- A `&` to the cells reaches each word. Assumes `Logic`.
use denote.Struct.Lending.{of_Lends}
use Rattle.pi_region.specs.contracts.raw.Cells as C
use Rattle.pi_region.proofs.raw.Cells.TheLaw.Statement.{statement}
use Rattle.pi_region.proofs.Sharing.{cells_lent_laws, Lends-cells}

pub shares : statement
shares = of_Lends C.struct C.the_codes C.the_heap C.the_lent (λ d p. cells_lent_laws d.at d.words) tt (λ M 𝓤 𝓛 d p. Lends-cells 𝓛 C.the_row.lives d.at d.words)
