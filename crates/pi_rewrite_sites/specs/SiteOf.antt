-- Where an expression stands, as code has it.
use Rattle.pi_rewrite_spec.specs.Sites as sites
use Rattle.pi_rewrite_slots.specs.Indexed.{names_in}
use Rattle.pi_rewrite_sites.specs.OwnNames.{own_name}
use Rattle.pi_rewrite_sites.specs.declared.site.Site.{Site}

abbrev pub site_of : Site → sites.Site
site_of s = record { filled = s.filled; before = names_in s.before.items; helpers = s.helpers; called = own_name s.naming.now.prefix }
