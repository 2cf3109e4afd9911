-- The state in which nothing has happened yet.
use Rattle.std.proofs.Common.{◌≡◌, ◌≤◌, ◌<◌, ◌+◌, inl, inr, ℕ, zero, suc, Bool, true, false, ◌==◌, nat_lt, lt-ltb, ltb-true, cond, List, [], ◌∷◌, ◌++◌, take, length, length-append, get_or, refl, sym, ap, subst, ◌∙◌, arith, eqb-true, Some}
use Rattle.std.specs.Prelude.{slice_get}
use Rattle.std.proofs.lemmas.Bool.{cases_Bool, cond-true, cond-false, eqb-false, ltb-false}
use Rattle.std.proofs.lemmas.List.{get_or_default}
use Rattle.std.proofs.lemmas.Option.{slice_get-get_or, get_or_from_slice_get, slice_get_within}
use Rattle.stat_plan.specs.Plans.{Plan, nodes}
use Rattle.stat_plan.specs.Machine.Kin.{start_kin}
use Rattle.stat_plan.specs.Invariants.{IsPlan}
use Rattle.loss_adoption.specs.NodeKins.{IsKinOf}
use Rattle.node_inbox.specs.Inboxes.{InboxView, queue_of}
use Rattle.node_inbox.specs.Sends.{inbox_at, is_alive, no_inbox}
use Rattle.control_cast.specs.Machine.{Packet, start, numbers_after}
use Rattle.control_cast.specs.CastNodes.{NodeView, node_kin, obeyed_of}
use Rattle.control_cast.specs.CastNets.{node_at, start_view, state_with, AreParts, IsNet}
use Rattle.control_cast.proofs.Commands.{numbers_more}
use Rattle.control_cast.proofs.CastNodes.{length_numbers}
use Rattle.control_cast.proofs.Reached.{seen_small}

get_or_last : {X : Type 0} (xs : List X) (x d : X) (a : ℕ) → a ≡ length xs → get_or (xs ++ x ∷ []) a d ≡ x
get_or_last [] x d zero e = refl
get_or_last [] x d (suc a) e = absurd (omega arith)
get_or_last (y ∷ ys) x d zero e = absurd (omega arith)
get_or_last (y ∷ ys) x d (suc a) e = get_or_last ys x d a (omega arith)

get_or_before : {X : Type 0} (xs : List X) (x d : X) (a : ℕ) → (a ≡ length xs → ⊥) → get_or (xs ++ x ∷ []) a d ≡ get_or xs a d
get_or_before [] x d zero ne = absurd (ne refl)
get_or_before [] x d (suc a) ne = refl
get_or_before (y ∷ ys) x d zero ne = refl
get_or_before (y ∷ ys) x d (suc a) ne = get_or_before ys x d a (λ e. ne (ap suc e))

get_or_more : {X : Type 0} (xs : List X) (x d : X) (a : ℕ) → get_or (xs ++ x ∷ []) a d ≡ cond (a == length xs) x (get_or xs a d)
get_or_more xs x d a = elim (cases_Bool (a == length xs)) [
  | inl t ↦ get_or_last xs x d a (eqb-true a (length xs) t) ∙ sym (cond-true (a == length xs) x (get_or xs a d) t)
  | inr t ↦ get_or_before xs x d a (eqb-false a (length xs) t) ∙ sym (cond-false (a == length xs) x (get_or xs a d) t)
]

length_more : {X : Type 0} (xs : List X) (x : X) (n : ℕ) → length xs ≡ n → length (xs ++ x ∷ []) ≡ n + 1
length_more xs x n e = length-append xs (x ∷ []) ∙ ap (λ k. k + 1) e

-- the first n nodes have been made
pub record AreFirst (p : Plan) (n : ℕ) (alive : List Bool) (xs : List NodeView) (boxes : List (InboxView Packet)) : Type 0 where
  pub alive_count : length alive ≡ n
  pub node_count : length xs ≡ n
  pub inbox_count : length boxes ≡ n
  pub lives : (a : ℕ) → is_alive alive a ≡ nat_lt a n
  pub nodes : (a : ℕ) → node_at p xs a ≡ start_view p a
  pub fits : (a : ℕ) (x : NodeView) → slice_get xs a ≡ Some x → IsKinOf p (node_kin x)
  pub empty : (a : ℕ) → inbox_at boxes a ≡ []

pub none_first : (p : Plan) → AreFirst p 0 [] [] []
none_first p = record { alive_count = refl; node_count = refl; inbox_count = refl; lives = λ a. none a; nodes = λ a. no_node a; fits = λ a x e. absurd (no_item a x e); empty = λ a. no_box a }
  where
    none : (a : ℕ) → is_alive [] a ≡ nat_lt a 0
    none a = dead a ∙ elim (cases_Bool (nat_lt a 0)) [ inl t ↦ absurd (let l : a < 0 = ltb-true a 0 t in omega arith) | inr f ↦ sym f ]
      where
        dead : (a : ℕ) → is_alive [] a ≡ false
        dead zero = refl
        dead (suc a) = refl

    no_node : (a : ℕ) → node_at p [] a ≡ start_view p a
    no_node zero = refl
    no_node (suc a) = refl

    no_item : (a : ℕ) (x : NodeView) → slice_get [] a ≡ Some x → ⊥
    no_item zero x e = cc
    no_item (suc a) x e = cc

    no_box : (a : ℕ) → inbox_at {X = Packet} [] a ≡ []
    no_box zero = refl
    no_box (suc a) = refl

pub one_more : (p : Plan) (n : ℕ) (alive alive' : List Bool) (xs xs' : List NodeView) (boxes boxes' : List (InboxView Packet)) (x : NodeView) (box : InboxView Packet) → AreFirst p n alive xs boxes
    → alive' ≡ alive ++ true ∷ [] → xs' ≡ xs ++ x ∷ [] → boxes' ≡ boxes ++ box ∷ [] → x ≡ record { number = n; kin = start_kin p n; seen = 0; count = 0 } → IsKinOf p (node_kin x) → box.waiting ≡ [] → AreFirst p (n + 1) alive' xs' boxes'
one_more p n alive alive' xs xs' boxes boxes' x box h ea ex eb ix fit none = record {
  alive_count = ap length ea ∙ length_more alive true n h.alive_count;
  node_count = ap length ex ∙ length_more xs x n h.node_count;
  inbox_count = ap length eb ∙ length_more boxes box n h.inbox_count;
  lives = λ a. ap (λ l. is_alive l a) ea ∙ get_or_more alive true false a ∙ elim (cases_Bool (a == length alive)) [
    | inl t ↦ let e : a ≡ length alive = eqb-true a (length alive) t in let k = h.alive_count in cond-true (a == length alive) true (get_or alive a false) t ∙ sym (lt-ltb a (n + 1) (omega arith))
    | inr t ↦ cond-false (a == length alive) true (get_or alive a false) t ∙ h.lives a ∙ same a (λ e. eqb-false a (length alive) t (e ∙ sym h.alive_count)) (nat_lt a n) refl
  ];
  nodes = λ a. ap (λ l. node_at p l a) ex ∙ get_or_more xs x (start_view p a) a ∙ elim (cases_Bool (a == length xs)) [
    | inl t ↦ let e : a ≡ n = eqb-true a (length xs) t ∙ h.node_count in cond-true (a == length xs) x (get_or xs a (start_view p a)) t ∙ ix ∙ ap (start_view p) (sym e)
    | inr t ↦ cond-false (a == length xs) x (get_or xs a (start_view p a)) t ∙ h.nodes a
  ];
  fits = λ a y e.
      let i : y ≡ cond (a == length xs) x (get_or xs a y) = sym (get_or_from_slice_get xs' a y y e) ∙ ap (λ l. get_or l a y) ex ∙ get_or_more xs x y a in
      elim (cases_Bool (a == length xs)) [
        | inl t ↦ subst (λ (z : NodeView). IsKinOf p (node_kin z)) (sym (i ∙ cond-true (a == length xs) x (get_or xs a y) t)) fit
        | inr t ↦
            let j : y ≡ get_or xs a y = i ∙ cond-false (a == length xs) x (get_or xs a y) t in
            let lt : a < length xs' = slice_get_within xs' a y e in
            let len : length xs' ≡ length xs + 1 = ap length ex ∙ length-append xs (x ∷ []) in
            let ne : (a ≡ length xs) → ⊥ = eqb-false a (length xs) t in
            h.fits a y (slice_get-get_or xs a y (omega arith) ∙ ap Some (sym j))
      ];
  empty = λ a. ap (λ l. inbox_at l a) eb ∙ ap (λ (b : InboxView Packet). b.waiting) (get_or_more boxes box no_inbox a) ∙ elim (cases_Bool (a == length boxes)) [
    | inl t ↦ ap (λ (b : InboxView Packet). b.waiting) (cond-true (a == length boxes) box (get_or boxes a no_inbox) t) ∙ none
    | inr t ↦ ap (λ (b : InboxView Packet). b.waiting) (cond-false (a == length boxes) box (get_or boxes a no_inbox) t) ∙ h.empty a
  ];
}
  where
    same : (a : ℕ) → (a ≡ n → ⊥) → (b : Bool) → nat_lt a n ≡ b → nat_lt a n ≡ nat_lt a (n + 1)
    same a ne true e = let l : a < n = ltb-true a n e in e ∙ sym (lt-ltb a (n + 1) (omega arith))
    same a ne false e = e ∙ sym (later (nat_lt a (n + 1)) refl)
      where
        later : (c : Bool) → nat_lt a (n + 1) ≡ c → nat_lt a (n + 1) ≡ false
        later true f = let l : a < n + 1 = ltb-true a (n + 1) f in let g : n ≤ a = ltb-false a n e in absurd (ne (omega arith))
        later false f = f

pub first_parts : (p : Plan) (n : ℕ) (alive : List Bool) (xs : List NodeView) (boxes : List (InboxView Packet)) → n ≡ nodes p → AreFirst p n alive xs boxes → AreParts p alive xs boxes
first_parts p n alive xs boxes e h = record {
  alive_count = h.alive_count ∙ e;
  node_count = h.node_count ∙ e;
  inbox_count = h.inbox_count ∙ e;
  numbers = λ a x i. (ap (λ (y : NodeView). y.number) (sym (get_or_from_slice_get xs a x (start_view p a) i) ∙ h.nodes a), h.fits a x i);
}

pub first_state : (p : Plan) (n : ℕ) (alive : List Bool) (xs : List NodeView) (boxes : List (InboxView Packet)) → n ≡ nodes p → AreFirst p n alive xs boxes → state_with p alive xs boxes ≡ start p
first_state p n alive xs boxes e h = λ i. record {
  net = record {
    alive = λ a. (h.lives a ∙ ap (nat_lt a) e) i;
    kin = λ a. (h.nodes a i).kin;
    count = λ a. (h.nodes a i).count;
    link = λ a b. queue_of (h.empty b i) a;
  };
  obeyed = λ a. obeyed_of (h.nodes a i);
}

-- ---- the commands that a node has obeyed

take_numbers : (k r s : ℕ) → r ≤ s → take r (numbers_after k s) ≡ numbers_after k r
take_numbers k zero s le = refl
take_numbers k (suc r) zero le = absurd (omega arith)
take_numbers k (suc r) (suc s) le = ap (λ l. suc k ∷ l) (take_numbers (suc k) r s (omega arith))

pub obeyed_are : (p : Plan) (commands : ℕ) (alive : List Bool) (xs : List NodeView) (boxes : List (InboxView Packet)) (n : ℕ) (x : NodeView) (seen : ℕ) (numbers : List ℕ) → IsPlan p → commands ≤ 1000 → IsNet p commands alive xs boxes → n < nodes p
    → x ≡ get_or xs n x → seen ≡ x.seen → numbers ≡ numbers_after 0 commands → (seen ≤ length numbers) × (take seen numbers ≡ obeyed_of (node_at p xs n))
obeyed_are p commands alive xs boxes n x seen numbers plan few h lt ix es en =
    let c = h.parts.node_count in
    let y : x ≡ node_at p xs n = ix ∙ get_or_default xs n x (start_view p n) (omega arith) in
    let s : seen ≡ (node_at p xs n).seen = es ∙ ap (λ (z : NodeView). z.seen) y in
    let l : (node_at p xs n).seen ≤ commands = seen_small p commands alive xs boxes n plan few h in
    let len : length numbers ≡ commands = ap length en ∙ length_numbers 0 commands in
    (omega arith, ap (take seen) en ∙ take_numbers 0 seen commands (omega arith) ∙ ap (numbers_after 0) s)

pub number_more : (i : ℕ) (items more : List ℕ) → items ≡ numbers_after 0 i → more ≡ items ++ (i + 1) ∷ [] → more ≡ numbers_after 0 (i + 1)
number_more i items more e f =
    let s : i + 1 ≡ suc i = omega arith in
    f ∙ ap (λ l. l ++ (i + 1) ∷ []) e ∙ ap (λ x. numbers_after 0 i ++ x ∷ []) s ∙ numbers_more 0 i i (omega arith) ∙ ap (numbers_after 0) (sym s)
