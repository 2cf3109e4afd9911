-- The view of a seat after the two steps of a claim, and of a commit.
use Rattle.std.proofs.Common.{◌≡◌, ℕ, List, [], ◌∷◌, ◌++◌, length, Option, Some, None, set, slice_set, slice_get, true, false, refl, sym, ap, ◌∙◌, subst}
use mathlib.Core.List.{IsPrefix}
use Rattle.board_turn.specs.Known.{known_of}
use Rattle.atomic_table.specs.Table.{Me, rest}
use Rattle.overlay_event.specs.declared.event.Event.{Event}
use Rattle.board_turn.specs.declared.holding.Holding.{Holding}
use Rattle.board_turn.specs.declared.view.View.{View}
use Rattle.board_turn.specs.Entries.{holding, claim_of, commit_of, LogState, log_state, IsUnmoved}
use Rattle.overlay_event.specs.Events.{event_node}
use Rattle.board_turn.specs.Turns.{with_entry, with_none_due, after_claim, after_commit, with_lift, with_no_turn, seen_state, known_state, TakesBoard}
use Rattle.board_turn.proofs.Logs.{log_state-snoc, seen_journal_grows}

-- what a seat of the table has: its view, and the slots that it carries
abbrev M : Type 0 → Type 0
M X = Me (Option X) View

module _ {X : Type 0} where
  -- the view after the two steps of a claim
  pub claim_ends : (m m' m'' : M X) (e f : Event) → e ≡ f
      → m' ≡ (with_entry m.0 (claim_of m.0.number f) (Some (holding m.0.number f (length (known_state m.0).journal))), m.1)
      → m'' ≡ (with_none_due m'.0, m'.1)
      → m'' ≡ (after_claim m.0 e, m.1)
  claim_ends m m' m'' e f same a b = b ∙ (ap (λ (z : M X). let y : M X = (with_none_due z.0, z.1) in y) a ∙ ap (λ (z : Event). let y : M X = (after_claim m.0 z, m.1) in y) (sym same))

  -- and of a commit
  pub commit_ends : (m m' m'' : M X) (h : Holding)
      → m' ≡ (with_entry m.0 (commit_of m.0.number h.event) None, m.1)
      → m'' ≡ (with_none_due m'.0, m'.1)
      → m'' ≡ (after_commit m.0 h, m.1)
  commit_ends m m' m'' h a b = b ∙ ap (λ (z : M X). let y : M X = (with_none_due z.0, z.1) in y) a

  -- what a seat knows and saw after a claim
  pub claim_saw : (m w : M X) (e : Event) (k : ℕ) → m.0.number ≡ k → w ≡ (after_claim m.0 e, m.1)
      → ((known_state w.0).journal ≡ (known_state m.0).journal) × ((known_state w.0).holders ≡ slice_set (known_state m.0).holders (event_node e) (Some (holding k e (length (known_state m.0).journal)))) × ((seen_state w.0).journal ≡ (known_state m.0).journal)
  claim_saw m w e k is at = let s : known_state w.0 ≡ known_state (after_claim m.0 e) = ap (λ (z : M X). known_state z.0) at in let t = log_state-snoc m.0.nodes m.0.known (claim_of m.0.number e) in (
    ap (λ (q : LogState). q.journal) (s ∙ t),
    ap (λ (q : LogState). q.holders) (s ∙ t) ∙ ap (λ (j : ℕ). set (known_state m.0).holders (event_node e) (Some (holding j e (length (known_state m.0).journal)))) is,
    ap (λ (z : M X). (seen_state z.0).journal) at ∙ ap (λ (q : LogState). q.journal) t,
  )

  -- and after a commit
  pub commit_saw : (m w : M X) (h : Holding) → w ≡ (after_commit m.0 h, m.1)
      → ((known_state w.0).journal ≡ (known_state m.0).journal ++ h.event ∷ []) × ((known_state w.0).holders ≡ slice_set (known_state m.0).holders (event_node h.event) None) × ((seen_state w.0).journal ≡ (known_state m.0).journal ++ h.event ∷ [])
  commit_saw m w h at = let s : known_state w.0 ≡ known_state (after_commit m.0 h) = ap (λ (z : M X). known_state z.0) at in let t = log_state-snoc m.0.nodes m.0.known (commit_of m.0.number h.event) in
      (ap (λ (q : LogState). q.journal) (s ∙ t), ap (λ (q : LogState). q.holders) (s ∙ t), ap (λ (z : M X). (seen_state z.0).journal) at ∙ ap (λ (q : LogState). q.journal) t)

-- the value of the slot that a seat took last
abbrev held_of : {X : Type 0} → List (ℕ × Option X) → Option X
held_of [] = None
held_of (x ∷ xs) = x.1

module _ {X Y : Type 0} (journal : X → List Event) (holders : X → List (Option Holding)) (base : X → Y) where
  -- the seat took the slot with a board, and the turn
  abbrev Gives : Option Y → M X → M X → Type 0
  Gives y m w = (b : X) × (w.1 ≡ (0, Some b) ∷ m.1) × TakesBoard journal holders base y m.0 w.0 b

  -- a take, for an equal seat
  pub same_start : (y : Option Y) (p q w : M X) → p ≡ q → Gives y p w → Gives y q w
  same_start y p q w e t = subst (λ (z : M X). Gives y z w) e t

  same_held : (a b : X) (l : List (ℕ × Option X)) → l ≡ (0, Some a) ∷ [] → l ≡ (0, Some b) ∷ [] → a ≡ b
  same_held a b l p q = let e : Some a ≡ Some b = ap held_of (sym p ∙ q) in cc

  -- the board that was lifted is the one that was taken
  pub lifted : (y : Option Y) (m w : M X) (r : X) → m.1 ≡ [] → Gives y m w → w.1 ≡ (0, Some r) ∷ [] → TakesBoard journal holders base y m.0 w.0 r
  lifted y m w r none_held t there =
      let same : t.0 ≡ r = same_held t.0 r w.1 (t.1 ∙ ap (λ (l : List (ℕ × Option X)). (0, Some t.0) ∷ l) none_held) there in subst (λ (z : X). TakesBoard journal holders base y m.0 w.0 z) same t.2

  -- the facts of a take, one by one
  pub record Taken (x : X) (v w : View) (r : X) : Type 0 where
    pub turn : w.turn ≡ true
    pub lifts : w.lifts ≡ true
    pub number : w.number ≡ v.number
    pub made : w.made ≡ v.made
    pub spent : w.spent ≡ v.spent
    pub due : w.due ≡ 0
    pub out : w.out ≡ v.out
    pub seen : w.seen ≡ v.seen
    pub keeps : (journal r ≡ (known_state w).journal) × (holders r ≡ (known_state w).holders) × (base r ≡ base x)
    pub later : IsPrefix (seen_state v).journal (journal r)
    pub stays : (h : Holding) → v.out ≡ Some h → (slice_get (holders r) (event_node h.event) ≡ Some (Some h)) × IsUnmoved (journal r) h

  -- every take has them
  pub taken_facts : (x : X) (v w : View) (r : X) → TakesBoard journal holders base (Some (base x)) v w r → Taken x v w r
  taken_facts x v w r t = let is = t.0 in let k = t.2 in record {
    turn = ap (λ (q : View). q.turn) is;
    lifts = ap (λ (q : View). q.lifts) is;
    number = ap (λ (q : View). q.number) is;
    made = ap (λ (q : View). q.made) is;
    spent = ap (λ (q : View). q.spent) is;
    due = ap (λ (q : View). q.due) is;
    out = ap (λ (q : View). q.out) is;
    seen = ap (λ (q : View). q.seen) is;
    keeps = (k.0, k.1, k.2 (base x) refl);
    later = subst (IsPrefix (seen_state v).journal) (ap (λ (n : ℕ). (log_state n w.known).journal) (sym (ap (λ (q : View). q.nodes) is)) ∙ sym k.0) (seen_journal_grows v.nodes v.seen w.known t.1);
    stays = λ h o. let a = t.3 h o in (ap (λ (l : List (Option Holding)). slice_get l (event_node h.event)) k.1 ∙ a.0, subst (λ (l : List Event). IsUnmoved l h) (sym k.0) a.1);
  }

  -- the board that was fetched, with the slot laid down again
  pub fetched : (y : Y) (m w z u : M X) (r : X) → m.1 ≡ [] → Gives (Some y) m w → z ≡ (w.0, (0, None) ∷ []) → w.1 ≡ (0, Some r) ∷ [] → u ≡ (with_lift z.0 false, rest z.1)
      → ((q : View) × (u.0 ≡ with_lift q false) × TakesBoard journal holders base (Some y) m.0 q r) × (u.1 ≡ [])
  fetched y m w z u r none_held t at there e = (
    (w.0, ap (λ (q : M X). q.0) e ∙ ap (λ (q : M X). with_lift q.0 false) at, lifted (Some y) m w r none_held t there),
    ap (λ (q : M X). q.1) e ∙ ap (λ (q : M X). rest q.1) at,
  )

  -- the view after the board was put home and the turn freed
  pub put_ends : (m p l u : M X) (b : X) → m.1 ≡ [] → p ≡ (with_lift m.0 true, (0, None) ∷ m.1) → l ≡ (p.0, (0, Some b) ∷ []) → u ≡ (with_no_turn l.0, rest l.1) → u ≡ (with_no_turn m.0, [])
  put_ends m p l u b none_held at there e = e ∙ (ap (λ (q : M X). let k : M X = (with_no_turn q.0, rest q.1) in k) there ∙ ap (λ (q : M X). let k : M X = (with_no_turn q.0, []) in k) at)

-- the view of a badge that was made a seat
pub badge_view : (vs us : List View) (v : View) → us ≡ vs → us ≡ v ∷ [] → v ≡ known_of vs
badge_view vs us v a b = sym (ap known_of b) ∙ ap known_of a

-- what a badge knows after a commit
pub commit_badge : {X : Type 0} (b b' r : List View) (p q : M X) (h : Holding) → r ≡ b → r ≡ p.0 ∷ [] → (known_of b).out ≡ Some h → ((g : Holding) → p.0.out ≡ Some g → q ≡ (after_commit p.0 g, p.1)) → b' ≡ q.0 ∷ []
    → known_of b' ≡ after_commit (known_of b) h
commit_badge {X} b b' r p q h a e out did e' = let v = badge_view b r p.0 a e in ap known_of e' ∙ (ap (λ (m : M X). m.0) (did h (ap (λ (z : View). z.out) v ∙ out)) ∙ ap (λ (z : View). after_commit z h) v)

-- what a view knows and saw after a commit
pub commit_view_saw : (v w : View) (h : Holding) → w ≡ after_commit v h
    → ((known_state w).journal ≡ (known_state v).journal ++ h.event ∷ []) × ((known_state w).holders ≡ slice_set (known_state v).holders (event_node h.event) None) × ((seen_state w).journal ≡ (known_state v).journal ++ h.event ∷ [])
commit_view_saw v w h at = let s : known_state w ≡ known_state (after_commit v h) = ap known_state at in let t = log_state-snoc v.nodes v.known (commit_of v.number h.event) in
    (ap (λ (q : LogState). q.journal) (s ∙ t), ap (λ (q : LogState). q.holders) (s ∙ t), ap (λ (z : View). (seen_state z).journal) at ∙ ap (λ (q : LogState). q.journal) t)
