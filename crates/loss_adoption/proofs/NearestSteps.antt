-- The nearest of a list that isn't lost, step by step.
use Rattle.std.proofs.Common.{◌≡◌, ◌<◌, ℕ, ◌+◌, true, false, cond, List, drop, get_or, length, sym, ap, ◌∙◌, Some}
use Rattle.std.proofs.lemmas.List.{drop_more}
use Rattle.overlay_setup.specs.NodeSets.{member}
use Rattle.stat_plan.specs.Machine.Kin.{nearest}

pub nearest_here : (above lost : List ℕ) (i d : ℕ) → i < length above → member (get_or above i d) lost ≡ false → nearest (drop i above) lost ≡ nearest above lost → Some (get_or above i d) ≡ nearest above lost
nearest_here above lost i d lt lives so_far =
    sym (ap (λ b. cond b (nearest (drop (i + 1) above) lost) (Some (get_or above i d))) lives)
    ∙ ap (λ xs. nearest xs lost) (sym (drop_more above i d lt))
    ∙ so_far

pub nearest_past : (above lost : List ℕ) (i d : ℕ) → i < length above → member (get_or above i d) lost ≡ true → nearest (drop i above) lost ≡ nearest above lost → nearest (drop (i + 1) above) lost ≡ nearest above lost
nearest_past above lost i d lt is_lost so_far =
    sym (ap (λ b. cond b (nearest (drop (i + 1) above) lost) (Some (get_or above i d))) is_lost)
    ∙ ap (λ xs. nearest xs lost) (sym (drop_more above i d lt))
    ∙ so_far
