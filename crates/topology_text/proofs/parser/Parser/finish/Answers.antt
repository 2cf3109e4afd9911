use Rattle.std.proofs.Common.{◌≡◌, ◌∙◌, ◌≤◌, sym, ap, subst, map, string_bytes, String, Global, List, length, None, arith}
use Rattle.overlay_setup.specs.Topologies.{IsTopology, topology}
use Rattle.overlay_setup.proofs.NameNumbers.{length-map}
use Rattle.topology_text.specs.ParserViews.{parser_view}
use Rattle.topology_text.specs.Whole.{parents_of, whole_error}
use Rattle.topology_text.proofs.Numbers.{distinct_names}
use Rattle.topology_text.proofs.InvariantLemmas.{is_topology}
use Rattle.topology_text.proofs.parser.Parser.finish.Goals as goal

few : (keys : List (String Global)) → length keys ≤ 512 → length (map string_bytes keys) ≤ 512
few keys h = rw (length-map string_bytes keys) h

pub new-requires : goal.new-requires
new-requires c =
    let parser = c.args.self in
    let parents = c.in_ok-parents.ensures ∙ ap parents_of c.deref.ensures.value in
    let none : whole_error parser.nodes.items ≡ None = sym (c.in_default.ensures ∙ ap whole_error c.deref-2.ensures.value) in
    subst (λ ps. IsTopology (topology (map string_bytes parser.names.keys) ps)) (sym parents) (is_topology (parser_view parser) (c.requires (parser_view parser) c.in_ok-take_end.ensures.ok) c.in_ok-take_end.ensures.outside (distinct_names parser.names.keys parser.distinct) (few parser.names.keys parser.within_limit) none)

pub whole_error-requires-clause-countable : goal.whole_error-requires-clause-countable
whole_error-requires-clause-countable c =
    let parser = c.args.self in
    let all = (c.requires (parser_view parser) c.in_ok-take_end.ensures.ok).paired in
    let limit = few parser.names.keys parser.within_limit in
    let len = ap length (c.deref-3.ensures.value ∙ c.in_ok-parents.ensures ∙ ap parents_of c.deref.ensures.value) ∙ length-map (λ x. x.parent) parser.nodes.items in
    omega (arith, all, limit, len)

pub returns-clause-topology : goal.returns-clause-topology
returns-clause-topology c =
    subst IsTopology (sym c.in_ok-new.ensures) (
    let parser = c.args.self in
    let parents = c.in_ok-parents.ensures ∙ ap parents_of c.deref.ensures.value in
    let none : whole_error parser.nodes.items ≡ None = sym (c.in_default.ensures ∙ ap whole_error c.deref-2.ensures.value) in
    subst (λ ps. IsTopology (topology (map string_bytes parser.names.keys) ps)) (sym parents) (is_topology (parser_view parser) (c.requires (parser_view parser) c.in_ok-take_end.ensures.ok) c.in_ok-take_end.ensures.outside (distinct_names parser.names.keys parser.distinct) (few parser.names.keys parser.within_limit) none)
    )
