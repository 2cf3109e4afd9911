use Rattle.std.proofs.Common.{◌∙◌, sym, ap, Some, None, map, string_bytes}
use Rattle.overlay_setup.specs.Names.{number_of}
use Rattle.overlay_setup.proofs.NameNumbers.{number_of_keys, no_name}
use Rattle.overlay_setup.proofs.topology.Topology.number_of.Goals as goal

pub returns-in_default : goal.returns-in_default
returns-in_default c = sym (no_name c.args.name.now c.self.inside.names.keys c.in_default.ensures.cases.0) ∙ ap (λ t. number_of c.args.name.now t.names) c.self.view_is

pub returns-in-Some : goal.returns-in-Some
returns-in-Some c = sym (number_of_keys string_bytes c.in-Ok.name.now c.self.inside.names.keys (Some c.in-Some.number) c.in-Some.ensures.index) ∙ ap (λ t. number_of t (map string_bytes c.self.inside.names.keys)) c.in-Ok.ensures.cases.0 ∙ ap (λ t. number_of c.args.name.now t.names) c.self.view_is

pub returns-in-None : goal.returns-in-None
returns-in-None c = sym (number_of_keys string_bytes c.in-Ok.name.now c.self.inside.names.keys None c.in-None.ensures.index) ∙ ap (λ t. number_of t (map string_bytes c.self.inside.names.keys)) c.in-Ok.ensures.cases.0 ∙ ap (λ t. number_of c.args.name.now t.names) c.self.view_is
