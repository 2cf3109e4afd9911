-- Each step keeps the table's invariant.
use Rattle.std.proofs.Common.{◌≡◌, ◌≢◌, ℕ, zero, suc, ◌+◌, ◌%◌, ◌^◌, ◌<◌, ◌≤◌, ◌==◌, ◌⊎◌, ⊎_elim, inl, inr, Bool, true, false, cond, List, [], ◌∷◌, ◌++◌, length, replicate, get_or, set, Option, Some, None, slice_get, refl, sym, ap, ◌∙◌, subst, arith, length-append}
use mathlib.Core.Option.{Option as Option', some, none, some-injective, some-ne-none}
use mathlib.Core.List.{IsPrefix}
use mathlib.Core.Logic.{dite}
use native.Mathlib.Decide.{ℕ_discrete}
use lib.ListN.{get_elem?}
use prog.Atomic.{either}
use Rattle.atomic_table.specs.Table.{State, Me, Act, keeps, takes, gives, step, stepped, Valid, carried_after, Allows, Splits, Joins, opening, Final, Seen}
use Rattle.atomic_table.proofs.Lists.{at_set, set_else, set_again, at_longer, at_snoc, exchanged}
use Rattle.overlay_event.specs.declared.event.Event.{Event}
use Rattle.board_turn.specs.declared.holding.Holding.{Holding}
use Rattle.board_turn.specs.declared.view.LogEntry.{LogEntry}
use Rattle.board_turn.specs.declared.view.View.{View}
use Rattle.board_turn.specs.Entries.{holding, claim_of, commit_of, LogState, state_after_entry, log_state, IsUnmoved}
use Rattle.overlay_event.specs.Events.{event_node}
use Rattle.board_turn.specs.Turns.{LogInvariant, ViewInvariant, TableInvariant, first_view, with_turn, with_no_turn, with_entry, with_none_due, with_one_more, split_off, spent_view, known_state, IsKnownTo, TriesTurn, FreesTurn, CountsEntry, CommitsEvent, ClaimsEvent, with_lift, KeepsView, LaysDown, PicksUp}
use Rattle.board_turn.proofs.Logs.{prefix_self, prefix_trans, out_else, out_here, all_none, invariant_start, invariant_claim, invariant_commit, log_state_from-append}

module _ {X Y : Type 0} (journal : X → List Event) (holders : X → List (Option Holding)) (base : X → Y) (x : X) where
  -- how many nodes the board has
  abbrev N : ℕ
  N = length (holders x)

  -- short names for the table's types
  abbrev V : Type 0
  V = View

  abbrev St : Type 0
  St = State (Option X) V

  abbrev M : Type 0
  M = Me (Option X) V

  -- the invariant, for this opening board
  abbrev Rule : St → Type 0
  Rule = TableInvariant journal holders base x

  -- what a living seat knows
  abbrev Fit : ℕ → ℕ → ℕ → Bool → List LogEntry → V → Type 0
  Fit = ViewInvariant journal holders base N

  -- no two living seats have one number
  abbrev HaveDistinctNumbers : List V → Type 0
  HaveDistinctNumbers vs = (i j : ℕ) (v w : V) → get_elem? vs i ≡ some v → get_elem? vs j ≡ some w → v.spent ≡ false → w.spent ≡ false → v.number ≡ w.number → i ≡ j

  -- the table with these words
  abbrev at_words : St → List ℕ → St
  at_words s ws = record { words = ws; homes = s.homes; views = s.views }

  -- what holds of each living seat, where one view is replaced
  seats : (K : V → Type 0) (vs : List V) (id : ℕ) (w : V) → K w → ((j : ℕ) (u : V) → j ≢ id → get_elem? vs j ≡ some u → u.spent ≡ false → K u)
      → (j : ℕ) (u : V) → get_elem? (set vs id w) j ≡ some u → u.spent ≡ false → K u
  seats K vs id w mine others j u e living = ⊎_elim (λ (t : (j ≡ id) × (w ≡ u)). subst K t.1 mine) (λ (t : (j ≢ id) × (get_elem? vs j ≡ some u)). others j u t.0 t.1 living) (at_set vs id j w u e)

  -- numbers stay distinct where a view keeps its number
  stay_distinct : (vs : List V) (id : ℕ) (v w : V) → HaveDistinctNumbers vs → get_elem? vs id ≡ some v → v.spent ≡ false → w.number ≡ v.number → HaveDistinctNumbers (set vs id w)
  stay_distinct vs id v w distinct_numbers at living same i j a b ai bj li lj e = ⊎_elim
      (λ (p : (i ≡ id) × (w ≡ a)). ⊎_elim
      (λ (q : (j ≡ id) × (w ≡ b)). p.0 ∙ sym q.0)
      (λ (q : (j ≢ id) × (get_elem? vs j ≡ some b)). p.0 ∙ distinct_numbers id j v b at q.1 living lj (sym same ∙ (ap (λ (z : V). z.number) p.1 ∙ e)))
      (at_set vs id j w b bj))
      (λ (p : (i ≢ id) × (get_elem? vs i ≡ some a)). ⊎_elim
      (λ (q : (j ≡ id) × (w ≡ b)). distinct_numbers i id a v p.1 at li living (e ∙ (sym (ap (λ (z : V). z.number) q.1) ∙ same)) ∙ sym q.0)
      (λ (q : (j ≢ id) × (get_elem? vs j ≡ some b)). distinct_numbers i j a b p.1 q.1 li lj e)
      (at_set vs id j w b bj))
      (at_set vs id i w a ai)

  at_set_here : {A : Type 0} (vs : List A) (i : ℕ) (a w : A) → get_elem? vs i ≡ some a → get_elem? (set vs i w) i ≡ some w
  at_set_here [] i a w e = absurd (some-ne-none a (sym e))
  at_set_here (y ∷ ys) zero a w e = refl
  at_set_here (y ∷ ys) (suc i) a w e = at_set_here ys i a w e

  -- the first seat lives
  abbrev FirstLives : List V → Type 0
  FirstLives vs = (j : ℕ) × (v : V) × (get_elem? vs j ≡ some v) × (v.spent ≡ false) × (v.number ≡ 1)

  -- the first seat stays where a view keeps its number
  keep_first : (vs : List V) (id : ℕ) (v w : V) → get_elem? vs id ≡ some v → w.number ≡ v.number → w.spent ≡ false → FirstLives vs → FirstLives (set vs id w)
  keep_first vs id v w at same living f = dite (ℕ_discrete f.0 id)
      (λ i. let e : some v ≡ some f.1 = sym at ∙ (ap (λ (k : ℕ). get_elem? vs k) (sym i) ∙ f.2) in (id, w, at_set_here vs id v w at, living, same ∙ (ap (λ (q : V). q.number) (some-injective v f.1 e) ∙ f.4)))
      (λ i. (f.0, f.1, set_else vs id f.0 w i ∙ f.2, f.3, f.4))

  -- another living seat has another number
  number_distinct : (vs : List V) (id : ℕ) (v : V) → HaveDistinctNumbers vs → get_elem? vs id ≡ some v → v.spent ≡ false → (j : ℕ) (u : V) → j ≢ id → get_elem? vs j ≡ some u → u.spent ≡ false → u.number ≢ v.number
  number_distinct vs id v distinct_numbers at living j u ne there lu e = ne (distinct_numbers j id u v there at lu living e)

  some_of : {A : Type 0} (a b : A) → some a ≡ some b → a ≡ b
  some_of a b e = some-injective a b e

  -- the invariant holds of a new table
  pub starts : journal x ≡ [] → ((v : ℕ) → v < N → slice_get (holders x) v ≡ Some None) → N < 2 ^ 32 → Rule (opening (0 ∷ 0 ∷ 0 ∷ 0 ∷ []) (Some x ∷ []) (first_view N))
  starts empty none_out within_limit = record {
    log = [];
    made = 0;
    owner = 0;
    pending = 0;
    entries = 0;
    waiting = 0;
    lifted = false;
    words = refl;
    counted = refl;
    log_invariant = invariant_start N within_limit;
    slot_home = λ _. (refl, (x, refl, record { same_journal = empty; same_holders = all_none (holders x) none_out; same_base = refl }));
    slot_away = λ ne. absurd (ne refl);
    owner_lives = λ ne. absurd (ne refl);
    first_lives = (0, first_view N, refl, refl, refl);
    living_views = λ j v e living. first_fits j v e;
    distinct_numbers = λ i j v w a b lv lw e. firsts i j v w a b;
  } where
    first_fits : (j : ℕ) (v : V) → get_elem? (first_view N ∷ []) j ≡ some v → Fit 0 0 0 false [] v
    first_fits zero v e = subst (Fit 0 0 0 false []) (some_of (first_view N) v e) record {
      nodes = refl;
      low = omega arith;
      high = omega arith;
      first = λ _. refl;
      seen_prefix = prefix_self [];
      out = refl;
      claim_seen = λ h o. absurd (cc);
      turn = λ t. absurd (cc);
    }
    first_fits (suc j) v e = absurd (some-ne-none v (sym e))

    firsts : (i j : ℕ) (v w : V) → get_elem? (first_view N ∷ []) i ≡ some v → get_elem? (first_view N ∷ []) j ≡ some w → i ≡ j
    firsts zero zero v w a b = refl
    firsts zero (suc j) v w a b = absurd (some-ne-none w (sym b))
    firsts (suc i) j v w a b = absurd (some-ne-none v (sym a))

  -- where the owner is 0, no living seat has the turn
  no_owner : (s : St) (r : Rule s) → r.owner ≡ 0 → (j : ℕ) (u : V) → get_elem? s.views j ≡ some u → u.spent ≡ false → u.turn ≡ true → ⊥
  no_owner s r z j u at living t = let f = r.living_views j u at living in let a = (f.turn t).0 in let low = f.low in absurd (omega arith)

  -- the owner is the seat that has the turn
  owner_is : (s : St) (r : Rule s) (id : ℕ) (v : V) → get_elem? s.views id ≡ some v → v.spent ≡ false → v.turn ≡ true → r.owner ≢ 0
  owner_is s r id v at living t z = no_owner s r z id v at living t

  -- no other seat has the turn
  no_other : (s : St) (r : Rule s) (id : ℕ) (v : V) → get_elem? s.views id ≡ some v → v.spent ≡ false → v.turn ≡ true
      → (j : ℕ) (u : V) → j ≢ id → get_elem? s.views j ≡ some u → u.spent ≡ false → u.turn ≡ true → ⊥
  no_other s r id v at living t j u ne there lu tu =
      let mine = ((r.living_views id v at living).turn t).0 in let theirs = ((r.living_views j u there lu).turn tu).0 in ne (r.distinct_numbers j id u v there at lu living (theirs ∙ sym mine))

  -- the words of the invariant, put into a step's goal
  worded : (s : St) (r : Rule s) (P : List ℕ → Type 0) → P (r.owner ∷ length (log_state N r.log).journal ∷ r.entries ∷ r.waiting ∷ []) → P s.words
  worded s r P p = subst P (sym r.words) p

  -- the state that a view knows
  known_state_is : (v : V) (n : ℕ) (log : List LogEntry) → v.nodes ≡ n → v.known ≡ log → known_state v ≡ log_state n log
  known_state_is v n log a b = λ i. log_state (a i) (b i)

  taken_turn : (s : St) (r : Rule s) (id k : ℕ) (v : V) (c : List (ℕ × Option X)) (b : X) → get_elem? s.views id ≡ some v → v.spent ≡ false → v.number ≡ k → r.owner ≡ 0 → s.homes ≡ some (Some b) ∷ [] → r.pending ≡ 0
      → Rule (stepped (at_words s (r.owner ∷ length (log_state N r.log).journal ∷ r.entries ∷ r.waiting ∷ [])) 0 k id c (with_turn v r.log) (takes 0 (Some b)))
  taken_turn s r id k v c b at living is z homes settled = let f = r.living_views id v at living in let w : V = with_turn v r.log in let low = f.low in record {
    log = r.log;
    made = r.made;
    owner = k;
    pending = 0;
    entries = r.entries;
    waiting = r.waiting;
    lifted = true;
    words = refl;
    counted = omega (arith, r.counted);
    log_invariant = r.log_invariant;
    slot_home = λ none. absurd (omega arith);
    slot_away = λ _. ap (λ hs. set hs 0 none) homes;
    owner_lives = λ _. (id, w, at_set_here s.views id v w at, living, refl);
    first_lives = keep_first s.views id v w at refl living r.first_lives;
    living_views = seats (Fit r.made k 0 true r.log) s.views id w
        record {
          nodes = f.nodes;
          low = f.low;
          high = f.high;
          first = f.first;
          seen_prefix = f.seen_prefix;
          out = f.out;
          claim_seen = f.claim_seen;
          turn = λ _. (is, refl, refl, refl);
        }
        (λ j u ne there lu. let g = r.living_views j u there lu in record {
          nodes = g.nodes;
          low = g.low;
          high = g.high;
          first = g.first;
          seen_prefix = g.seen_prefix;
          out = g.out;
          claim_seen = g.claim_seen;
          turn = λ t. absurd (no_owner s r z j u there lu t);
        });
    distinct_numbers = stay_distinct s.views id v w r.distinct_numbers at living refl;
  }

  -- of a try for the turn
  pub takes_turn : (slots id k : ℕ) (o : Option Y) (me : M) → me.0.spent ≡ false → me.0.number ≡ k → o ≡ Some (base x)
      → Allows Rule slots id me 0 (λ n. either (n == 0) k n) (TriesTurn journal holders base o (step slots 0 0 k none) me)
  takes_turn slots id k o me living is from s r _ at _ = let v : V = me.0 in let f = r.living_views id v at living in
      let T : ℕ → St → ℕ → Type 0 = λ n t m. (w : V) × (a : Act (Option X)) × Valid s.homes me.1 a × Rule (stepped t 0 m id me.1 w a) × TriesTurn journal holders base o (step slots 0 0 k none) me n (w, carried_after me.1 a) in
      worded s r (λ ws. T (get_or ws 0 0) (at_words s ws) (either (get_or ws 0 0 == 0) k (get_or ws 0 0)))
      (exchanged r.owner 0 k (T r.owner (at_words s (r.owner ∷ length (log_state N r.log).journal ∷ r.entries ∷ r.waiting ∷ [])))
      (λ z. let home = r.slot_home z in let b : X = home.1.0 in let w : V = with_turn v r.log in let same : known_state w ≡ log_state N r.log = known_state_is w N r.log f.nodes refl in (
        w,
        takes 0 (Some b),
        ap (λ hs. get_elem? hs 0) home.1.1,
        taken_turn s r id k v me.1 b at living is z home.1.1 home.0,
        (
          λ _. (
            b,
            refl,
            (
              refl,
              f.seen_prefix,
              (let m = home.1.2 in (m.same_journal ∙ ap (λ (q : LogState). q.journal) (sym same), m.same_holders ∙ ap (λ (q : LogState). q.holders) (sym same), λ y e. m.same_base ∙ (let a : Some (base x) ≡ Some y = sym from ∙ e in cc))),
              (λ h there. let out = sym f.out ∙ there in subst (λ (q : LogState). (slice_get q.holders (event_node h.event) ≡ Some (Some h)) × IsUnmoved q.journal h) (sym same) ((r.log_invariant.outs_held v.number h out).1, (r.log_invariant.unmoved v.number h out).1)),
            ),
          ),
          λ ne. absurd (ne z),
        ),
      ))
      (λ ne. (
        v,
        keeps,
        tt,
        subst (λ (vs : List V). Rule record { words = r.owner ∷ length (log_state N r.log).journal ∷ r.entries ∷ r.waiting ∷ []; homes = s.homes; views = vs }) (sym (set_again s.views id v at)) (worded' s r),
        (λ z. absurd (ne z), λ _. refl),
      ))) where
        worded' : (s : St) (r : Rule s) → Rule (at_words s (r.owner ∷ length (log_state N r.log).journal ∷ r.entries ∷ r.waiting ∷ []))
        worded' s r = subst (λ ws. Rule (at_words s ws)) r.words r

  -- the invariant's words, as a step's goal has them
  abbrev ruled_words : (s : St) → Rule s → List ℕ
  ruled_words s r = r.owner ∷ length (log_state N r.log).journal ∷ r.entries ∷ r.waiting ∷ []

  -- the state after one more entry at the end
  snoc_is : (log : List LogEntry) (e : LogEntry) → log_state N (log ++ e ∷ []) ≡ state_after_entry (log_state N log) e
  snoc_is log e = log_state_from-append record { journal = []; holders = replicate N None; outs = λ _. None } log (e ∷ [])

  -- of freeing the turn, with the board in the slot
  pub frees : (slots id : ℕ) (v : V) (b : X) → v.spent ≡ false → v.turn ≡ true → v.due ≡ 0 → v.lifts ≡ true → IsKnownTo journal holders base (Some (base x)) b v
      → Allows Rule slots id (v, (0, Some b) ∷ []) 0 (λ _. 0) (λ _. FreesTurn (step slots 0 0 0 none) (v, (0, Some b) ∷ []) 0)
  frees slots id v b living has settled lifts same s r _ at _ = let f = r.living_views id v at living in let w : V = with_no_turn v in let t = f.turn has in
      let all : known_state v ≡ log_state N r.log = known_state_is v N r.log f.nodes t.1 in let none_due : r.pending ≡ 0 = sym t.2 ∙ settled in let owned = owner_is s r id v at living has in (
        w,
        gives,
        tt,
        worded s r (λ ws. Rule (stepped (at_words s ws) 0 0 id ((0, Some b) ∷ []) w gives)) record {
          log = r.log;
          made = r.made;
          owner = 0;
          pending = 0;
          entries = r.entries;
          waiting = r.waiting;
          lifted = false;
          words = refl;
          counted = omega (arith, r.counted);
          log_invariant = r.log_invariant;
          slot_home = λ _. (
            refl,
            (
              b,
              ap (λ hs. set hs 0 (some (Some b))) (r.slot_away owned ∙ ap (λ (q : Bool). let l : List (Option' (Option X)) = cond q none (some None) ∷ [] in l) (sym t.3 ∙ lifts)),
              record {
                same_journal = same.0 ∙ ap (λ (q : LogState). q.journal) all;
                same_holders = same.1 ∙ ap (λ (q : LogState). q.holders) all;
                same_base = same.2 (base x) refl;
              },
            ),
          );
          slot_away = λ ne. absurd (ne refl);
          owner_lives = λ ne. absurd (ne refl);
          first_lives = keep_first s.views id v w at refl living r.first_lives;
          living_views = seats (Fit r.made 0 0 false r.log) s.views id w
              record {
                nodes = f.nodes;
                low = f.low;
                high = f.high;
                first = f.first;
                seen_prefix = f.seen_prefix;
                out = f.out;
                claim_seen = f.claim_seen;
                turn = λ e. absurd (cc);
              }
              (λ j u ne there lu. let g = r.living_views j u there lu in record {
                nodes = g.nodes;
                low = g.low;
                high = g.high;
                first = g.first;
                seen_prefix = g.seen_prefix;
                out = g.out;
                claim_seen = g.claim_seen;
                turn = λ e. absurd (no_other s r id v at living has j u ne there lu e);
              });
          distinct_numbers = stay_distinct s.views id v w r.distinct_numbers at living refl;
        },
        refl,
      )

  -- the same, for a seat that is known by an equation
  pub frees_at : (slots id : ℕ) (v : V) (b : X) (m : M) → m ≡ (v, (0, Some b) ∷ []) → v.spent ≡ false → v.turn ≡ true → v.due ≡ 0 → v.lifts ≡ true → IsKnownTo journal holders base (Some (base x)) b v
      → Allows Rule slots id m 0 (λ _. 0) (λ _. FreesTurn (step slots 0 0 0 none) m 0)
  frees_at slots id v b m is living has settled lifts same = subst (λ (m : M). Allows Rule slots id m 0 (λ _. 0) (λ _. FreesTurn (step slots 0 0 0 none) m 0)) (sym is) (frees slots id v b living has settled lifts same)

  -- the owner lays the slot down, or picks it up
  shifted : (s : St) (r : Rule s) (id : ℕ) (v : V) (l : Bool) (hs : List (Option' (Option X))) → get_elem? s.views id ≡ some v → v.spent ≡ false → v.turn ≡ true → hs ≡ cond l none (some None) ∷ []
      → Rule record { words = ruled_words s r; homes = hs; views = set s.views id (with_lift v l) }
  shifted s r id v l hs at living has homes = let f = r.living_views id v at living in let w : V = with_lift v l in let t = f.turn has in let owned = owner_is s r id v at living has in record {
    log = r.log;
    made = r.made;
    owner = r.owner;
    pending = r.pending;
    entries = r.entries;
    waiting = r.waiting;
    lifted = l;
    words = refl;
    counted = r.counted;
    log_invariant = r.log_invariant;
    slot_home = λ z. absurd (owned z);
    slot_away = λ _. homes;
    owner_lives = λ _. (id, w, at_set_here s.views id v w at, living, has);
    first_lives = keep_first s.views id v w at refl living r.first_lives;
    living_views = seats (Fit r.made r.owner r.pending l r.log) s.views id w
        record {
          nodes = f.nodes;
          low = f.low;
          high = f.high;
          first = f.first;
          seen_prefix = f.seen_prefix;
          out = f.out;
          claim_seen = f.claim_seen;
          turn = λ _. (t.0, t.1, t.2, refl);
        }
        (λ j u ne there lu. let g = r.living_views j u there lu in record {
          nodes = g.nodes;
          low = g.low;
          high = g.high;
          first = g.first;
          seen_prefix = g.seen_prefix;
          out = g.out;
          claim_seen = g.claim_seen;
          turn = λ y. absurd (no_other s r id v at living has j u ne there lu y);
        });
    distinct_numbers = stay_distinct s.views id v w r.distinct_numbers at living refl;
  }

  home_at : (s : St) (r : Rule s) (id : ℕ) (v : V) (l : Bool) → get_elem? s.views id ≡ some v → v.spent ≡ false → v.turn ≡ true → v.lifts ≡ l → s.homes ≡ cond l none (some None) ∷ []
  home_at s r id v l at living has is = r.slot_away (owner_is s r id v at living has) ∙ ap (λ (q : Bool). let h : List (Option' (Option X)) = cond q none (some None) ∷ [] in h) (sym (((r.living_views id v at living).turn has).3) ∙ is)

  -- of laying the empty slot down
  pub lays : (slots id : ℕ) (v : V) (m : M) → m ≡ (v, (0, None) ∷ []) → v.spent ≡ false → v.turn ≡ true → v.lifts ≡ true
      → Allows Rule slots id m 0 (λ n. n) (LaysDown (step slots 0 0 0 none) m)
  lays slots id v m is living has lifts = subst (λ (m : M). Allows Rule slots id m 0 (λ n. n) (LaysDown (step slots 0 0 0 none) m)) (sym is)
      (λ s r _ at _. (
        with_lift v false,
        gives,
        tt,
        worded s r (λ ws. Rule (stepped (at_words s ws) 0 (get_or ws 0 0) id ((0, None) ∷ []) (with_lift v false) gives))
            (shifted s r id v false (set s.homes 0 (some None)) at living has (ap (λ hs. set hs 0 (some None)) (home_at s r id v true at living has lifts))),
        refl,
      ))

  -- of picking the empty slot up
  pub picks : (slots id : ℕ) (m : M) → m.0.spent ≡ false → m.0.turn ≡ true → m.0.lifts ≡ false
      → Allows Rule slots id m 0 (λ n. n) (PicksUp (step slots 0 0 0 none) m)
  picks slots id m living has lifts s r _ at _ = let home = home_at s r id m.0 false at living has lifts in (
    with_lift m.0 true,
    takes 0 None,
    ap (λ hs. get_elem? hs 0) home,
    worded s r (λ ws. Rule (stepped (at_words s ws) 0 (get_or ws 0 0) id m.1 (with_lift m.0 true) (takes 0 None)))
        (shifted s r id m.0 true (set s.homes 0 none) at living has (ap (λ hs. set hs 0 none) home)),
    refl,
  )

  -- the owner adds an entry, which is not counted yet
  entered : (s : St) (r : Rule s) (id : ℕ) (v : V) (c : List (ℕ × Option X)) (e : LogEntry) (o : Option Holding) (word n : ℕ) → get_elem? s.views id ≡ some v → v.spent ≡ false → v.turn ≡ true → v.due ≡ 0
      → e.seat ≡ v.number
      → LogInvariant N r.made (length r.log + 1) (state_after_entry (log_state N r.log) e)
      → o ≡ (state_after_entry (log_state N r.log) e).outs v.number
      → ((u : ℕ) → u ≢ v.number → (state_after_entry (log_state N r.log) e).outs u ≡ (log_state N r.log).outs u)
      → set (ruled_words s r) word n ≡ r.owner ∷ length (state_after_entry (log_state N r.log) e).journal ∷ r.entries ∷ r.waiting ∷ []
      → Rule (stepped (at_words s (ruled_words s r)) word n id c (with_entry v e o) keeps)
  entered s r id v c e o word n at living has settled own good out others words = let f = r.living_views id v at living in let w : V = with_entry v e o in let t = f.turn has in let log : List LogEntry = r.log ++ e ∷ [] in
      let snoc : log_state N log ≡ state_after_entry (log_state N r.log) e = snoc_is r.log e in let long : length log ≡ length r.log + 1 = length-append r.log (e ∷ []) in let owned = owner_is s r id v at living has in
      let none_due : r.pending ≡ 0 = sym t.2 ∙ settled in let all : v.known ++ e ∷ [] ≡ log = ap (λ l. l ++ e ∷ []) t.1 in
      let invariant_now : LogInvariant N r.made (length log) (log_state N log) = subst (λ (p : ℕ × LogState). LogInvariant N r.made p.0 p.1) (λ i. (sym long i, sym snoc i)) good in
      let out' : o ≡ (log_state N log).outs v.number = out ∙ ap (λ (q : LogState). q.outs v.number) (sym snoc) in record {
        log = log;
        made = r.made;
        owner = r.owner;
        pending = 1;
        entries = r.entries;
        waiting = r.waiting;
        lifted = r.lifted;
        words = words ∙ ap (λ (q : LogState). r.owner ∷ length q.journal ∷ r.entries ∷ r.waiting ∷ []) (sym snoc);
        counted = omega (arith, r.counted);
        log_invariant = invariant_now;
        slot_home = λ z. absurd (owned z);
        slot_away = r.slot_away;
        owner_lives = λ _. (id, w, at_set_here s.views id v w at, living, has);
        first_lives = keep_first s.views id v w at refl living r.first_lives;
        living_views = seats (Fit r.made r.owner 1 r.lifted log) s.views id w
            record {
              nodes = f.nodes;
              low = f.low;
              high = f.high;
              first = f.first;
              seen_prefix = subst (λ (l : List LogEntry). IsPrefix l log) (sym all) (prefix_self log);
              out = out';
              claim_seen = λ h is. subst (λ (l : List LogEntry). h.since ≤ length (log_state N l).journal) (sym all) (invariant_now.unmoved v.number h (sym out' ∙ is)).0;
              turn = λ _. (t.0, all, refl, t.3);
            }
            (λ j u ne there lu. let g = r.living_views j u there lu in record {
              nodes = g.nodes;
              low = g.low;
              high = g.high;
              first = g.first;
              seen_prefix = prefix_trans u.seen r.log log g.seen_prefix (e ∷ [], refl);
              out = g.out ∙ (sym (others u.number (number_distinct s.views id v r.distinct_numbers at living j u ne there lu)) ∙ ap (λ (q : LogState). q.outs u.number) (sym snoc));
              claim_seen = g.claim_seen;
              turn = λ y. absurd (no_other s r id v at living has j u ne there lu y);
            });
        distinct_numbers = stay_distinct s.views id v w r.distinct_numbers at living refl;
      }

  -- of entering a claim into the log
  pub marks : (slots id k : ℕ) (e : Event) (me : M) → me.0.spent ≡ false → me.0.number ≡ k → me.0.turn ≡ true → me.0.due ≡ 0 → me.0.out ≡ None → length (known_state me.0).journal < 2 ^ 62
      → slice_get (known_state me.0).holders (event_node e) ≡ Some None
      → Allows Rule slots id me 0 (λ _. k) (λ _. ClaimsEvent e (step slots 0 k 0 none) me k)
  marks slots id k e me living is has settled free room at_home s r _ at _ = let v : V = me.0 in let f = r.living_views id v at living in let t = f.turn has in let all : known_state v ≡ log_state N r.log = known_state_is v N r.log f.nodes t.1 in
      let x' : LogState = log_state N r.log in let h : Holding = holding v.number e (length (known_state v).journal) in let n = t.0 in
      let same : h ≡ holding v.number e (length x'.journal) = ap (λ (q : LogState). holding v.number e (length q.journal)) all in (
        with_entry v (claim_of v.number e) (Some h),
        keeps,
        tt,
        worded s r (λ ws. Rule (stepped (at_words s ws) 0 k id me.1 (with_entry v (claim_of v.number e) (Some h)) keeps))
            (entered s r id v me.1 (claim_of v.number e) (Some h) 0 k at living has settled refl
            (invariant_claim N r.made (length r.log) x' v.number e r.log_invariant f.high (sym f.out ∙ free) (subst (λ (q : LogState). slice_get q.holders (event_node e) ≡ Some None) all at_home) (subst (λ (q : LogState). length q.journal < 2 ^ 62) all room))
            (ap Some same ∙ sym (out_here x'.outs v.number (Some (holding v.number e (length x'.journal)))))
            (λ u ne. out_else x'.outs v.number (Some (holding v.number e (length x'.journal))) u ne)
            (ap (λ (z : ℕ). z ∷ length x'.journal ∷ r.entries ∷ r.waiting ∷ []) (sym is ∙ n))),
        refl,
      )

  -- of counting a commit in word 1
  pub commits : (slots id count : ℕ) (h : Holding) (me : M) → me.0.spent ≡ false → me.0.turn ≡ true → me.0.due ≡ 0 → me.0.out ≡ Some h → count ≡ length (known_state me.0).journal + 1
      → Allows Rule slots id me 1 (λ _. count) (λ _. CommitsEvent (step slots 1 count 0 none) me count)
  commits slots id count h me living has settled out is s r _ at _ = let v : V = me.0 in let f = r.living_views id v at living in let t = f.turn has in let all : known_state v ≡ log_state N r.log = known_state_is v N r.log f.nodes t.1 in
      let x' : LogState = log_state N r.log in let e : LogEntry = commit_of v.number h.event in let count' : count ≡ length (x'.journal ++ h.event ∷ []) = is ∙ (ap (λ (q : LogState). length q.journal + 1) all ∙ sym (length-append x'.journal (h.event ∷ []))) in (
        with_entry v e None,
        keeps,
        tt,
        worded s r (λ ws. Rule (stepped (at_words s ws) 1 count id me.1 (with_entry v e None) keeps))
            (entered s r id v me.1 e None 1 count at living has settled refl
            (invariant_commit N r.made (length r.log) x' v.number h r.log_invariant (sym f.out ∙ out))
            (sym (out_here x'.outs v.number None))
            (λ u ne. out_else x'.outs v.number None u ne)
            (ap (λ (z : ℕ). r.owner ∷ z ∷ r.entries ∷ r.waiting ∷ []) count')),
        (λ g there. let same : h ≡ g = cc in ap (λ (z : Holding). (with_entry v (commit_of v.number z.event) None, me.1)) same),
      )

  -- of counting an entry in word 2
  pub counts : (slots id : ℕ) (me : M) → me.0.spent ≡ false → me.0.turn ≡ true → me.0.due ≡ 1
      → Allows Rule slots id me 2 (λ n. (n + 1) % 2 ^ 64) (CountsEntry (step slots 2 1 0 none) me)
  counts slots id me living has due s r _ at _ = let v : V = me.0 in let f = r.living_views id v at living in let t = f.turn has in let w : V = with_none_due v in let owned = owner_is s r id v at living has in
      let one_due : r.pending ≡ 1 = sym t.2 ∙ due in let z = r.log_invariant in let within_limit = z.within_limit in let count_limit = z.count_limit in let counts' = z.entry_count in let c = r.counted in
      let fits : (r.entries + 1) % 2 ^ 64 ≡ r.entries + 1 = omega arith in (
        w,
        keeps,
        tt,
        worded s r (λ ws. Rule (stepped (at_words s ws) 2 ((get_or ws 2 0 + 1) % 2 ^ 64) id me.1 w keeps)) record {
          log = r.log;
          made = r.made;
          owner = r.owner;
          pending = 0;
          entries = r.entries + 1;
          waiting = r.waiting;
          lifted = r.lifted;
          words = ap (λ (m : ℕ). r.owner ∷ length (log_state N r.log).journal ∷ m ∷ r.waiting ∷ []) fits;
          counted = omega arith;
          log_invariant = r.log_invariant;
          slot_home = λ y. absurd (owned y);
          slot_away = r.slot_away;
          owner_lives = λ _. (id, w, at_set_here s.views id v w at, living, has);
          first_lives = keep_first s.views id v w at refl living r.first_lives;
          living_views = seats (Fit r.made r.owner 0 r.lifted r.log) s.views id w
              record {
                nodes = f.nodes;
                low = f.low;
                high = f.high;
                first = f.first;
                seen_prefix = f.seen_prefix;
                out = f.out;
                claim_seen = f.claim_seen;
                turn = λ _. (t.0, t.1, refl, t.3);
              }
              (λ j u ne there lu. let g = r.living_views j u there lu in record {
                nodes = g.nodes;
                low = g.low;
                high = g.high;
                first = g.first;
                seen_prefix = g.seen_prefix;
                out = g.out;
                claim_seen = g.claim_seen;
                turn = λ y. absurd (no_other s r id v at living has j u ne there lu y);
              });
          distinct_numbers = stay_distinct s.views id v w r.distinct_numbers at living refl;
        },
        refl,
      )

  -- an element of a list with one more is an element of the list, or the last at the last place
  snoc_cases : {A : Type 0} (l : List A) (a b : A) (j : ℕ) → get_elem? (l ++ a ∷ []) j ≡ some b → (get_elem? l j ≡ some b) ⊎ ((j ≡ length l) × (a ≡ b))
  snoc_cases [] a b zero e = inr (refl, some_of a b e)
  snoc_cases [] a b (suc j) e = absurd (some-ne-none b (sym e))
  snoc_cases (y ∷ ys) a b zero e = inl e
  snoc_cases (y ∷ ys) a b (suc j) e = ⊎_elim inl (λ t. inr (ap suc t.0, t.1)) (snoc_cases ys a b j e)

  -- numbers stay distinct where a view with a new number comes last
  come_apart : (vs : List V) (w : V) → HaveDistinctNumbers vs → ((j : ℕ) (u : V) → get_elem? vs j ≡ some u → u.spent ≡ false → u.number ≢ w.number) → HaveDistinctNumbers (vs ++ w ∷ [])
  come_apart vs w distinct_numbers other i j a b ai bj la lb e = ⊎_elim
      (λ (p : get_elem? vs i ≡ some a). ⊎_elim
      (λ (q : get_elem? vs j ≡ some b). distinct_numbers i j a b p q la lb e)
      (λ (q : (j ≡ length vs) × (w ≡ b)). absurd (other i a p la (e ∙ ap (λ (z : V). z.number) (sym q.1))))
      (snoc_cases vs w b j bj))
      (λ (p : (i ≡ length vs) × (w ≡ a)). ⊎_elim
      (λ (q : get_elem? vs j ≡ some b). absurd (other j b q lb (sym e ∙ ap (λ (z : V). z.number) (sym p.1))))
      (λ (q : (j ≡ length vs) × (w ≡ b)). p.0 ∙ sym q.0)
      (snoc_cases vs w b j bj))
      (snoc_cases vs w a i ai)

  -- of splitting a seat off the first
  pub splits : (id : ℕ) (v : V) → v.spent ≡ false → v.number ≡ 1 → Splits Rule id v (with_one_more v) (split_off v)
  splits id v living one s r at = let f = r.living_views id v at living in let made = f.first one in let left : V = with_one_more v in let right : V = split_off v in let vs : List V = set s.views id left in let z = r.log_invariant in
      let number : v.made + 2 ≡ r.made + 2 = omega arith in record {
        log = r.log;
        made = r.made + 1;
        owner = r.owner;
        pending = r.pending;
        entries = r.entries;
        waiting = r.waiting;
        lifted = r.lifted;
        words = r.words;
        counted = r.counted;
        log_invariant = record {
          outs_held = z.outs_held;
          holders_out = z.holders_out;
          unmoved = z.unmoved;
          unused = λ k l. z.unused k (omega arith);
          node_count = z.node_count;
          within_limit = z.within_limit;
          entry_count = z.entry_count;
          count_limit = z.count_limit;
        };
        slot_home = r.slot_home;
        slot_away = r.slot_away;
        owner_lives = λ ne. let o = r.owner_lives ne in dite (ℕ_discrete o.0 id)
            (λ i. (
              id,
              left,
              at_longer vs (right ∷ []) id left (at_set_here s.views id v left at),
              living,
              (let e : some v ≡ some o.1 = sym at ∙ (ap (λ (k : ℕ). get_elem? s.views k) (sym i) ∙ o.2) in ap (λ (q : V). q.turn) (some_of v o.1 e) ∙ o.4),
            ))
            (λ i. (o.0, o.1, at_longer vs (right ∷ []) o.0 o.1 (set_else s.views id o.0 left i ∙ o.2), o.3, o.4));
        first_lives = (let o = keep_first s.views id v left at refl living r.first_lives in (o.0, o.1, at_longer vs (right ∷ []) o.0 o.1 o.2, o.3, o.4));
        living_views = λ j u there lu. ⊎_elim
            (λ (before : get_elem? vs j ≡ some u). seats (Fit (r.made + 1) r.owner r.pending r.lifted r.log) s.views id left
            record {
              nodes = f.nodes;
              low = f.low;
              high = omega arith;
              first = λ _. omega arith;
              seen_prefix = f.seen_prefix;
              out = f.out;
              claim_seen = f.claim_seen;
              turn = f.turn;
            }
            (λ i y ne here ly. let g = r.living_views i y here ly in let high = g.high in record {
              nodes = g.nodes;
              low = g.low;
              high = omega arith;
              first = λ is. absurd (ne (r.distinct_numbers i id y v here at ly living (is ∙ sym one)));
              seen_prefix = g.seen_prefix;
              out = g.out;
              claim_seen = g.claim_seen;
              turn = g.turn;
            }) j u before lu)
            (λ (last : right ≡ u). subst (Fit (r.made + 1) r.owner r.pending r.lifted r.log) last record {
              nodes = f.nodes;
              low = omega arith;
              high = omega arith;
              first = λ is. absurd (omega arith);
              seen_prefix = f.seen_prefix;
              out = sym (z.unused (v.made + 2) (omega arith));
              claim_seen = λ h is. absurd (cc);
              turn = λ is. absurd (cc);
            })
            (at_snoc vs right u j there);
        distinct_numbers = come_apart vs right (stay_distinct s.views id v left r.distinct_numbers at living refl)
            (λ j u there lu e. let high : u.number ≤ r.made + 1 = seats (λ (y : V). y.number ≤ r.made + 1) s.views id left f.high (λ i y ne here ly. (r.living_views i y here ly).high) j u there lu in absurd (omega arith));
      }

  -- of counting in word 3 who waits, by any seat
  pub waits : (slots id d : ℕ) (f : ℕ → ℕ) (me : M) → Allows Rule slots id me 3 f (KeepsView (step slots 3 d 0 none) me)
  waits slots id d f me s r _ at _ = (
    me.0,
    keeps,
    tt,
    worded s r (λ ws. Rule (stepped (at_words s ws) 3 (f (get_or ws 3 0)) id me.1 me.0 keeps))
        (subst (λ (vs : List V). Rule record { words = r.owner ∷ length (log_state N r.log).journal ∷ r.entries ∷ f r.waiting ∷ []; homes = s.homes; views = vs }) (sym (set_again s.views id me.0 at)) (recounted s r (f r.waiting))),
    refl,
  ) where
    recounted : (s : St) (r : Rule s) (n : ℕ) → Rule (at_words s (r.owner ∷ length (log_state N r.log).journal ∷ r.entries ∷ n ∷ []))
    recounted s r n = record {
      log = r.log;
      made = r.made;
      owner = r.owner;
      pending = r.pending;
      entries = r.entries;
      waiting = n;
      lifted = r.lifted;
      words = refl;
      counted = r.counted;
      log_invariant = r.log_invariant;
      slot_home = r.slot_home;
      slot_away = r.slot_away;
      owner_lives = r.owner_lives;
      first_lives = r.first_lives;
      living_views = r.living_views;
      distinct_numbers = r.distinct_numbers;
    }

  -- of joining a seat that has neither the turn nor a node out
  pub joins : (id : ℕ) (v : V) (other : ℕ) (w : V) → w.spent ≡ false → w.turn ≡ false → w.number ≢ 1 → Joins Rule id v other w v spent_view
  joins id v other w living rests not_first s r at distinct_numbers there =
      let same : set s.views id v ≡ s.views = set_again s.views id v at in
      let there' : get_elem? s.views other ≡ some w = subst (λ (vs : List V). get_elem? vs other ≡ some w) same there in
      subst (λ (vs : List V). Rule record { words = s.words; homes = s.homes; views = set vs other spent_view }) (sym same) record {
        log = r.log;
        made = r.made;
        owner = r.owner;
        pending = r.pending;
        entries = r.entries;
        waiting = r.waiting;
        lifted = r.lifted;
        words = r.words;
        counted = r.counted;
        log_invariant = r.log_invariant;
        slot_home = r.slot_home;
        slot_away = r.slot_away;
        owner_lives = λ ne. let o = r.owner_lives ne in (
          o.0,
          o.1,
          set_else s.views other o.0 spent_view (λ i. let e : some w ≡ some o.1 = sym there' ∙ (ap (λ (k : ℕ). get_elem? s.views k) (sym i) ∙ o.2) in
              let turned : w.turn ≡ true = ap (λ (q : V). q.turn) (some_of w o.1 e) ∙ o.4 in absurd (cc)) ∙ o.2,
          o.3,
          o.4,
        );
        first_lives = (let o = r.first_lives in (o.0, o.1, set_else s.views other o.0 spent_view (λ i. let e : some w ≡ some o.1 = sym there' ∙ (ap (λ (k : ℕ). get_elem? s.views k) (sym i) ∙ o.2) in not_first (ap (λ (q : V). q.number) (some_of w o.1 e) ∙ o.4)) ∙ o.2, o.3, o.4));
        living_views = λ j u here lu. ⊎_elim
            (λ (t : (j ≡ other) × (spent_view ≡ u)). let e : true ≡ false = ap (λ (q : V). q.spent) t.1 ∙ lu in absurd (cc))
            (λ (t : (j ≢ other) × (get_elem? s.views j ≡ some u)). r.living_views j u t.1 lu)
            (at_set s.views other j spent_view u here);
        distinct_numbers = λ i j a b ai bj la lb e. ⊎_elim
            (λ (t : (i ≡ other) × (spent_view ≡ a)). let y : true ≡ false = ap (λ (q : V). q.spent) t.1 ∙ la in absurd (cc))
            (λ (t : (i ≢ other) × (get_elem? s.views i ≡ some a)). ⊎_elim
            (λ (u : (j ≡ other) × (spent_view ≡ b)). let y : true ≡ false = ap (λ (q : V). q.spent) u.1 ∙ lb in absurd (cc))
            (λ (u : (j ≢ other) × (get_elem? s.views j ≡ some b)). r.distinct_numbers i j a b t.1 u.1 la lb e)
            (at_set s.views other j spent_view b bj))
            (at_set s.views other i spent_view a ai);
      }

  -- where a seat has the turn, word 1 is the length of the journal that it knows
  pub closes : (ws : List ℕ) (xs : List (Option X)) (id : ℕ) (v : V) (n : ℕ) → Final (Seen Rule id v) ws xs → v.spent ≡ false → v.turn ≡ true → get_elem? ws 1 ≡ some n → n ≡ length (known_state v).journal
  closes ws xs id v n f living has word = let s = f.0 in let r = f.1.0 in let g = r.living_views id v f.1.1 living in let t = g.turn has in
      let all : known_state v ≡ log_state N r.log = known_state_is v N r.log g.nodes t.1 in
      let e : some n ≡ some (length (log_state N r.log).journal) = sym word ∙ ap (λ (l : List ℕ). get_elem? l 1) (sym f.2 ∙ r.words) in
      some-injective n (length (log_state N r.log).journal) e ∙ ap (λ (q : LogState). length q.journal) (sym all)
