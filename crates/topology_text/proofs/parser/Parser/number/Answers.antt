use Rattle.std.proofs.Common.{◌≡◌, ◌∙◌, sym, ap, None, Some, Ok, Err, String, Global, ◌<◌, ◌++◌, [], ◌∷◌, List, length, ◌≤◌, map, string_bytes, arith}
use Rattle.overlay_setup.specs.Names.{number_of}
use Rattle.overlay_setup.proofs.NameNumbers.{length-map, number_of_keys}
use Rattle.topology_text.specs.ParserViews.{parser_view}
use Rattle.topology_text.proofs.Numbers.{number_of_last, appear_known, appear_over, appear_new, inserted}
use Rattle.topology_text.proofs.parser.Parser.number.Goals as goal

pub returns-in-Some-clause-ok : goal.returns-in-Some-clause-ok
returns-in-Some-clause-ok c = appear_known (parser_view c.args.self.now) c.args.line_number c.in-Some.number c.args.name.now (number_of_keys string_bytes c.args.name.now c.args.self.now.names.keys (Some c.in-Some.number) c.in-Some.ensures.index)

pub returns-in-Some-clause-number : goal.returns-in-Some-clause-number
returns-in-Some-clause-number c = number_of_keys string_bytes c.args.name.now c.args.self.now.names.keys (Some c.in-Some.number) c.in-Some.ensures.index

many : (keys : List (String Global)) → 512 ≤ length keys → 512 ≤ length (map string_bytes keys)
many keys h = rw (length-map string_bytes keys) h

few : (keys : List (String Global)) → length keys < 512 → length (map string_bytes keys) < 512
few keys h = rw (length-map string_bytes keys) h

pub returns-then-number-clause-err : goal.returns-then-number-clause-err
returns-then-number-clause-err c = λ _. appear_over (parser_view c.args.self.now) c.args.line_number c.args.name.now (number_of_keys string_bytes c.args.name.now c.args.self.now.names.keys None c.in_default.ensures.index) (many c.args.self.now.names.keys (omega (arith, c.len-number.ensures.len))) ∙ ap Err (sym c.over.ensures)

unknown : (c : goal.In_ok-insert_full) → number_of c.args.name.now (map string_bytes c.args.self.now.names.keys) ≡ None
unknown c = number_of_keys string_bytes c.args.name.now c.args.self.now.names.keys None c.in_default.ensures.index

keys_now : (c : goal.In_ok-insert_full) → map string_bytes c.insert_full.new.self.keys ≡ map string_bytes c.args.self.now.names.keys ++ c.args.name.now ∷ []
keys_now c = ap (map string_bytes) c.in_ok-insert_full.ensures.keys ∙ inserted c.args.self.now.names.keys c.in_ok-from_str.field-0 c.args.name.now c.in_ok-from_str.ensures.ok (sym c.in_default.ensures.found)

pub returns-clause-ok : goal.returns-clause-ok
returns-clause-ok c =
    appear_new (parser_view c.args.self.now) c.args.line_number c.args.name.now (unknown c) (few c.args.self.now.names.keys (omega (arith, c.len-number.ensures.len)))
    ∙ (λ i. Ok (record { names = sym (keys_now c) i; nodes = sym c.in_ok-push.ensures.items i; state = c.args.self.now.state }))

pub returns-clause-number : goal.returns-clause-number
returns-clause-number c =
    ap (number_of c.args.name.now) (keys_now c) ∙ number_of_last c.args.name.now (map string_bytes c.args.self.now.names.keys) (unknown c) ∙ ap Some (length-map string_bytes c.args.self.now.names.keys ∙ sym c.len-number.ensures.len)
