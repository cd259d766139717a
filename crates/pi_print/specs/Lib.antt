pub use Rattle.pi_syntax.specs.PrintAtom
pub use Rattle.pi_syntax.specs.PrintTerm
pub use Rattle.pi_syntax.specs.ProgramTree
pub use Rattle.pi_print_terms.specs.PrintAnswer
pub use Rattle.pi_print_program.specs.Canonical
