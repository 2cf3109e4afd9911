use Rattle.std.proofs.Common.{rules, ◌≡◌, ◌++◌, [], ◌∷◌, sym, subst, OnOk}
use Rattle.std.proofs.lemmas.Bool.{eqb-true}
use Rattle.packet_frame.proofs.Written.{no_ends_bytes}
use Rattle.packet_frame.proofs.encoding.put_ends.Goals as goal

pub returns-then-is_empty : goal.returns-then-is_empty
returns-then-is_empty c =
    let zeros : OnOk c.extend_from_slice.result (c.extend_from_slice.new.self.items ≡ c.args.out.now.items ++ 0 ∷ 0 ∷ 0 ∷ 0 ∷ []) = search rules in
    subst (λ bytes. OnOk c.extend_from_slice.result (c.extend_from_slice.new.self.items ≡ c.args.out.now.items ++ bytes)) (sym (no_ends_bytes c.args.places.now c.args.ends.now (eqb-true _ _ (sym c.if-is_empty.ensures)))) zeros
