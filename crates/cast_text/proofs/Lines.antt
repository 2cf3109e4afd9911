-- The lines of a report, command by command.
use Rattle.std.proofs.Common.{◌≡◌, ◌∙◌, ◌<◌, ◌+◌, ℕ, suc, Bool, true, false, ◌==◌, filter, List, [], ◌∷◌, ◌++◌, take, length, get_or, Some, inl, inr, refl, sym, ap, subst, arith}
use Rattle.std.specs.Prelude.{codes, slice_get}
use Rattle.std.specs.List.{AllByRecursion, flat_map, list_any}
use Rattle.std.proofs.lemmas.Grind.{flat_map-append}
use Rattle.std.proofs.lemmas.List.{append-nil, append_assoc, take_more}
use Rattle.std.proofs.lemmas.Option.{get_or_from_slice_get}
use Rattle.rank_set.specs.Ranks.{Ranks, union}
use Rattle.rank_set.specs.Text.{text_of}
use Rattle.overlay_setup.specs.NodeSets.{In, up_to}
use Rattle.overlay_setup.specs.Trees.{is_daemon}
use Rattle.stat_plan.specs.Plans.{Plan, nodes, ranks, ranks_on}
use Rattle.stat_plan.proofs.Expecting.{ranks_on-push}
use Rattle.stat_plan.proofs.InLists.{in_from_filter, up_to_below}
use Rattle.control_cast.specs.declared.event.CastEvent.{CastEvent}
use Rattle.control_cast.specs.CastViews.{NetView, cast_state}
use Rattle.control_cast.specs.CastNets.{node_at}
use Rattle.control_cast.specs.Machine.{State, numbers_after, seen}
use Rattle.control_cast.proofs.Commands.{numbers_more}
use Rattle.cast_text.specs.CastText.{command_line, command_lines, daemon_line, daemons_of, event_line, has_obeyed, journal_text, ranks_text, report_text}
use Rattle.cast_text.proofs.Numbers.{filter_agree, filter_kept, filter_left, none_passes, same_next}

-- what a node of a net has obeyed
pub obeyed_is : (v : NetView) (n : ℕ) → (cast_state v).obeyed n ≡ numbers_after 0 (node_at v.plan v.members n).seen
obeyed_is v n = refl

-- where no daemon stopped after a command, the same ones obeyed the next one
pub same_ranks_next : (v : NetView) (i : ℕ) → 0 < i → list_any (λ d. seen (cast_state v) d == i) (daemons_of v.plan) ≡ false → ranks_text v.plan (cast_state v) (i + 1) ≡ ranks_text v.plan (cast_state v) i
same_ranks_next v i some none =
    ap (λ ds. text_of (ranks_on v.plan ds))
    (filter_agree (λ d. has_obeyed (cast_state v) d (i + 1)) (λ d. has_obeyed (cast_state v) d i) (daemons_of v.plan)
    (λ d there. same_next ((cast_state v).obeyed d) (node_at v.plan v.members d).seen i refl some (none_passes (λ d. seen (cast_state v) d == i) (daemons_of v.plan) none d there)))

-- one line more
pub line_more : (p : Plan) (st : State) (i : ℕ) (old out more : List ℕ) → out ≡ old ++ command_lines p st i → more ≡ out ++ command_line (i + 1) (ranks_text p st (i + 1)) → more ≡ old ++ command_lines p st (i + 1)
line_more p st i old out more is e =
    let s : i + 1 ≡ suc i = omega arith in
    let f : ℕ → List ℕ = (λ k. command_line k (ranks_text p st k)) in
    e ∙ ap (λ l. l ++ f (i + 1)) is ∙ append_assoc old (command_lines p st i) (f (i + 1))
    ∙ ap (λ l. old ++ l)
    (ap (λ k. command_lines p st i ++ f k) s ∙ ap (λ l. command_lines p st i ++ l) (sym (append-nil (f (suc i))))
    ∙ sym (flat_map-append f (numbers_after 0 i) (suc i ∷ [])) ∙ ap (flat_map f) (numbers_more 0 i i (omega arith) ∙ ap (numbers_after 0) (sym s)))

-- the daemons are nodes of the plan
pub daemons_below : (p : Plan) (xs : List ℕ) → xs ≡ daemons_of p → AllByRecursion (λ d. d < nodes p) xs
daemons_below p xs is = subst (AllByRecursion (λ d. d < nodes p)) (sym is) (each (daemons_of p) (λ d i. up_to_below (nodes p) d (in_from_filter (is_daemon p.parents) d (up_to (nodes p)) i).0))
  where
    each : (ds : List ℕ) → ((d : ℕ) → In d ds → d < nodes p) → AllByRecursion (λ d. d < nodes p) ds
    each [] h = tt
    each (d ∷ ds) h = (h d (inl refl), each ds (λ e i. h e (inr i)))

-- the line of one event more
pub event_more : (p : Plan) (journal : List CastEvent) (i : ℕ) (e : CastEvent) (out more : List ℕ) → i < length journal → slice_get journal i ≡ Some e → out ≡ journal_text p (take i journal) → more ≡ out ++ event_line p e → more ≡ journal_text p (take (i + 1) journal)
event_more p journal i e out more lt at is en =
    en ∙ ap (λ l. l ++ event_line p e) is
    ∙ ap (λ l. journal_text p (take i journal) ++ l) (sym (append-nil (event_line p e)))
    ∙ sym (flat_map-append (event_line p) (take i journal) (e ∷ []))
    ∙ ap (journal_text p) (ap (λ x. take i journal ++ x ∷ []) (sym (get_or_from_slice_get journal i e e at)) ∙ sym (take_more journal i e lt))

-- the ranks of one daemon more, or the same
pub ranks_more : (p : Plan) (f : ℕ → Bool) (xs : List ℕ) (k x : ℕ) (set more : Ranks) → k < length xs → x ≡ get_or xs k 0 → f x ≡ true → set ≡ ranks_on p (filter f (take k xs)) → more ≡ union set (ranks p x) → more ≡ ranks_on p (filter f (take (k + 1) xs))
ranks_more p f xs k x set more lt is t es em =
    em ∙ ap (λ s. union s (ranks p x)) es ∙ sym (ranks_on-push p (filter f (take k xs)) x) ∙ ap (ranks_on p) (sym (filter_kept f xs k x lt is t))

pub ranks_same : (p : Plan) (f : ℕ → Bool) (xs : List ℕ) (k x : ℕ) (set : Ranks) → k < length xs → x ≡ get_or xs k 0 → f x ≡ false → set ≡ ranks_on p (filter f (take k xs)) → set ≡ ranks_on p (filter f (take (k + 1) xs))
ranks_same p f xs k x set lt is t es = es ∙ ap (ranks_on p) (sym (filter_left f xs k x lt is t))

-- the text of the ranks that obeyed a command: that of the one before it, or a new one
pub kept_text : (v : NetView) (i : ℕ) (daemons : List ℕ) (stopped : Bool) (text : List ℕ) → 0 < i → daemons ≡ daemons_of v.plan → stopped ≡ list_any (λ d. seen (cast_state v) d == i) daemons → stopped ≡ false → text ≡ ranks_text v.plan (cast_state v) i → text ≡ ranks_text v.plan (cast_state v) (i + 1)
kept_text v i daemons stopped text some ed es none et =
    et ∙ sym (same_ranks_next v i some (ap (list_any (λ d. seen (cast_state v) d == i)) (sym ed) ∙ sym es ∙ none))

pub new_text : (v : NetView) (command : ℕ) (daemons : List ℕ) (set : Ranks) (text : List ℕ) → daemons ≡ daemons_of v.plan → set ≡ ranks_on v.plan (filter (λ d. has_obeyed (cast_state v) d command) daemons) → text ≡ text_of set → text ≡ ranks_text v.plan (cast_state v) command
new_text v command daemons set text ed es et = et ∙ ap text_of (es ∙ ap (λ ds. ranks_on v.plan (filter (λ d. has_obeyed (cast_state v) d command) ds)) ed)

-- the parts of a report, one after another
pub whole_report : (v : NetView) (p : Plan) (daemons none commands lines all : List ℕ) → p ≡ v.plan → daemons ≡ daemons_of p → none ≡ [] → commands ≡ none ++ command_lines v.plan (cast_state v) v.commands → lines ≡ commands ++ flat_map (daemon_line v.plan (cast_state v)) daemons → all ≡ lines ++ codes "end\n"
    → all ≡ report_text v.plan v.commands (cast_state v)
unfolding report_text
whole_report v p daemons none commands lines all ep ed en ec el ea =
    let first : commands ≡ command_lines v.plan (cast_state v) v.commands = ec ∙ ap (λ l. l ++ command_lines v.plan (cast_state v) v.commands) en in
    let second : daemons ≡ daemons_of v.plan = ed ∙ ap daemons_of ep in
    ea ∙ ap (λ l. l ++ codes "end\n") (el ∙ (λ i. first i ++ flat_map (daemon_line v.plan (cast_state v)) (second i)))
