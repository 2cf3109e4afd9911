-- What numbers become, both ways between a cover and its places.
use Rattle.std.proofs.Common.{◌≡◌, ℕ, ◌+◌, ◌-◌, ◌<◌, ◌≤◌, nat_lt, nat_le, Bool, true, false, ◌&&◌, ◌||◌, refl, sym, ap, ◌∙◌, subst, ◌⊎◌, inl, inr, arith}
use Rattle.std.proofs.lemmas.Bool.{cases_Bool, cases_lt, cases_order, true≢false, and_parts, or_cases, lt-ltb, le-ltb, lt-leb, le-leb, ltb-true}
use Rattle.rank_set.specs.Ranks.{Ranks, none, has, those, union, has-none, has-those, has-union, same_ranks}
use Rattle.rank_set.specs.Runs.{ranks_between}
use Rattle.rank_set.proofs.RunSets.{between_in, between_low, between_high}
use Rattle.rank_places.specs.Places.{place, to_places}
use Rattle.rank_places.specs.Table.{inside, Becomes, image, IsShift}
use Rattle.rank_places.proofs.Places.{place_has, to_places-member, has-from_places, place-increases, place-injective}

and_true : (x : Bool) → (x && true) ≡ x
and_true true = refl
and_true false = refl

and_false : (x : Bool) → (x && false) ≡ false
and_false true = refl
and_false false = refl

or_false : (x : Bool) → (x || false) ≡ x
or_false true = refl
or_false false = refl

or_assoc : (x y z : Bool) → ((x || y) || z) ≡ (x || (y || z))
or_assoc true y z = refl
or_assoc false y z = refl

-- two tests that follow from each other
pub both_ways : (a b : Bool) → (a ≡ true → b ≡ true) → (b ≡ true → a ≡ true) → a ≡ b
both_ways true b f g = sym (f refl)
both_ways false true f g = g refl
both_ways false false f g = refl

module _ (back : Bool) (cover : Ranks) where
  -- all numbers of a set become others
  abbrev pub AreInside : Ranks → Type 0
  AreInside s = (x : ℕ) → has s x ≡ true → inside back cover x ≡ true

-- a number becomes a member exactly where it is one
pub image_at : (back : Bool) (cover s : Ranks) → AreInside back cover s → (x y : ℕ) → Becomes back cover x y → has (image back cover s) y ≡ has s x
image_at false cover s within x y b = subst (λ p. has (to_places cover s) p ≡ has s x) b.1 (place_has cover s within x b.0)
image_at true cover s within x y b = has-from_places cover s y ∙ ap (λ t. t && has s (place cover y)) b.0 ∙ ap (has s) b.1

-- and each member comes from one
pub image_from : (back : Bool) (cover s : Ranks) → AreInside back cover s → (y : ℕ) → has (image back cover s) y ≡ true → (x : ℕ) × (has s x ≡ true) × Becomes back cover x y
image_from false cover s within y one = let m = to_places-member cover s y one in (m.0, m.1, (within m.0 m.1, m.2))
image_from true cover s within y one = let p = and_parts (has cover y) (has s (place cover y)) (sym (has-from_places cover s y) ∙ one) in (place cover y, p.1, (p.0, refl))

-- greater numbers become greater ones
pub becomes_increases : (back : Bool) (cover : Ranks) (x y v w : ℕ) → Becomes back cover x y → Becomes back cover v w → x < v → y < w
becomes_increases false cover x y v w a b lt = omega (arith, place-increases cover x v a.0 lt, a.1, b.1)
becomes_increases true cover x y v w a b lt = elim (cases_order y w) [
  | inl e ↦ absurd (omega (arith, ap (place cover) e, a.1, b.1, lt))
  | inr differ ↦ elim differ [
    | inl up ↦ up
    | inr down ↦ absurd (omega (arith, place-increases cover w y b.0 down, a.1, b.1, lt))
  ]
]

-- and each number one
pub becomes_one : (back : Bool) (cover : Ranks) (x y w : ℕ) → Becomes back cover x y → Becomes back cover x w → y ≡ w
becomes_one false cover x y w a b = sym a.1 ∙ b.1
becomes_one true cover x y w a b = place-injective cover y w a.0 b.0 (a.1 ∙ sym b.1)

-- nothing becomes nothing
pub image_none : (back : Bool) (cover s : Ranks) → ((x : ℕ) → has s x ≡ false) → image back cover s ≡ none
image_none back cover s gone = same_ranks _ _ (λ y. both_ways (has (image back cover s) y) (has none y) (λ one. absurd (true≢false (sym (let f = image_from back cover s (λ x h. absurd (true≢false (sym h ∙ gone x))) y one in f.1) ∙ gone (let f = image_from back cover s (λ x h. absurd (true≢false (sym h ∙ gone x))) y one in f.0)))) (λ one. absurd (true≢false (sym one ∙ has-none y))))

-- what two sets become
pub image_union : (back : Bool) (cover s t : Ranks) → AreInside back cover s → AreInside back cover t → image back cover (union s t) ≡ union (image back cover s) (image back cover t)
image_union back cover s t in_s in_t = same_ranks _ _ (λ y. both_ways (has (image back cover (union s t)) y) (has (union (image back cover s) (image back cover t)) y)
    (λ one.
    let f = image_from back cover (union s t) both y one in
    has-union (image back cover s) (image back cover t) y ∙ (λ i. image_at back cover s in_s f.0 y f.2 i || image_at back cover t in_t f.0 y f.2 i) ∙ sym (has-union s t f.0) ∙ f.1)
    (λ one. elim (cases_Bool (has (image back cover s) y)) [
      | inl first ↦ let f = image_from back cover s in_s y first in image_at back cover (union s t) both f.0 y f.2 ∙ has-union s t f.0 ∙ ap (λ b. b || has t f.0) f.1
      | inr other ↦
          let second : has (image back cover t) y ≡ true = ap (λ b. b || has (image back cover t) y) (sym other) ∙ sym (has-union (image back cover s) (image back cover t) y) ∙ one in
          let f = image_from back cover t in_t y second in image_at back cover (union s t) both f.0 y f.2 ∙ has-union s t f.0 ∙ ap (λ b. has s f.0 || b) f.1 ∙ or_true (has s f.0)
    ]))
  where
    or_true : (b : Bool) → (b || true) ≡ true
    or_true true = refl
    or_true false = refl

    both : AreInside back cover (union s t)
    both x one = elim (cases_Bool (has s x)) [
      | inl h ↦ in_s x h
      | inr h ↦ in_t x (ap (λ b. b || has t x) (sym h) ∙ sym (has-union s t x) ∙ one)
    ]

-- the members below a number
abbrev pub before : Ranks → ℕ → Ranks
before s n = those (λ x. nat_lt x n) s

has_before : (s : Ranks) (n x : ℕ) → x < n → has (before s n) x ≡ has s x
has_before s n x lt = has-those (λ x. nat_lt x n) s x ∙ ap (λ b. has s x && b) (lt-ltb x n lt) ∙ and_true (has s x)

has_not_before : (s : Ranks) (n x : ℕ) → n ≤ x → has (before s n) x ≡ false
has_not_before s n x le = has-those (λ x. nat_lt x n) s x ∙ ap (λ b. has s x && b) (le-ltb x n le) ∙ and_false (has s x)

pub before_parts : (s : Ranks) (n x : ℕ) → has (before s n) x ≡ true → (has s x ≡ true) × (x < n)
before_parts s n x one = let p = and_parts (has s x) (nat_lt x n) (sym (has-those (λ x. nat_lt x n) s x) ∙ one) in (p.0, ltb-true x n p.1)

-- no member is before all
pub before_none : (back : Bool) (cover s : Ranks) (n : ℕ) → ((x : ℕ) → has s x ≡ true → n ≤ x) → image back cover (before s n) ≡ none
before_none back cover s n above = image_none back cover (before s n) (λ x. elim (cases_Bool (has (before s n) x)) [
  | inl one ↦ let p = before_parts s n x one in absurd (omega (arith, p.1, above x p.0))
  | inr gone ↦ gone
])

-- past all members, all are before
pub before_all : (s : Ranks) (n : ℕ) → ((x : ℕ) → n ≤ x → has s x ≡ false) → before s n ≡ s
before_all s n gone = same_ranks _ _ (λ x. elim (cases_lt x n) [
  | inl lt ↦ has_before s n x lt
  | inr le ↦ has_not_before s n x le ∙ sym (gone x le)
])

-- the members from one number to another, moved together
module _ (back : Bool) (cover s : Ranks) (within : AreInside back cover s) where
  inside_before : (n : ℕ) → AreInside back cover (before s n)
  inside_before n x one = within x (before_parts s n x one).0

  module _ (from first len start end target : ℕ) (run : IsShift back cover first start end target) (fits : first + len ≤ end) (low : from ≤ first) (gap : (x : ℕ) → from ≤ x → x < first → has s x ≡ false) where
    abbrev at : ℕ
    at = target + (first - start)

    abbrev next : ℕ
    next = first + len + 1

    becomes_at : (y : ℕ) → at ≤ y → y ≤ at + len → Becomes back cover (first + (y - at)) y
    becomes_at y up down =
        let e : target + ((first + (y - at)) - start) ≡ y = omega (arith, run.start, up) in
        subst (Becomes back cover (first + (y - at))) e (run.moved.moves (first + (y - at)) (omega (arith, run.start)) (omega (arith, fits, down, up)))

    outside : (y : ℕ) → (y < at) ⊎ (at + len < y) → has (image back cover (before s from)) y ≡ has (image back cover (before s next)) y
    outside y out = both_ways (has (image back cover (before s from)) y) (has (image back cover (before s next)) y)
        (λ one.
        let f = image_from back cover (before s from) (inside_before from) y one in
        let p = before_parts s from f.0 f.1 in
        image_at back cover (before s next) (inside_before next) f.0 y f.2 ∙ has_before s next f.0 (omega (arith, p.1, low)) ∙ p.0)
        (λ one.
        let f = image_from back cover (before s next) (inside_before next) y one in
        let p = before_parts s next f.0 f.1 in
        elim (cases_lt f.0 from) [
          | inl lt ↦ image_at back cover (before s from) (inside_before from) f.0 y f.2 ∙ has_before s from f.0 lt ∙ p.0
          | inr le ↦ elim (cases_lt f.0 first) [
            | inl lt ↦ absurd (true≢false (sym p.0 ∙ gap f.0 le lt))
            | inr up ↦
                let e : y ≡ target + (f.0 - start) = becomes_one back cover f.0 y (target + (f.0 - start)) f.2 (run.moved.moves f.0 (omega (arith, run.start, up)) (omega (arith, p.1, fits))) in
                elim out [
                  | inl below ↦ absurd (omega (arith, e, below, up, run.start))
                  | inr past ↦ absurd (omega (arith, e, past, up, p.1, run.start))
                ]
          ]
        ])

    -- the members before the next number are those before, and what the bits stand for
    pub moved_on : (bit : ℕ → Bool) → ((i : ℕ) → i ≤ len → bit i ≡ has s (first + i)) → ((i : ℕ) → len < i → bit i ≡ false) → (y : ℕ) → (has (image back cover (before s from)) y || (nat_le at y && bit (y - at))) ≡ has (image back cover (before s next)) y
    moved_on bit bits past y = elim (cases_lt y at) [
      | inl lt ↦ ap (λ b. has (image back cover (before s from)) y || (b && bit (y - at))) (le_false lt) ∙ or_false (has (image back cover (before s from)) y) ∙ outside y (inl lt)
      | inr up ↦ elim (cases_lt (at + len) y) [
        | inl gone ↦
            ap (λ b. has (image back cover (before s from)) y || (nat_le at y && b)) (past (y - at) (omega (arith, gone)))
            ∙ ap (λ b. has (image back cover (before s from)) y || b) (and_false (nat_le at y)) ∙ or_false (has (image back cover (before s from)) y) ∙ outside y (inr gone)
        | inr down ↦
            let b = becomes_at y up down in
            ap (λ t. t || (nat_le at y && bit (y - at))) (image_at back cover (before s from) (inside_before from) (first + (y - at)) y b ∙ has_not_before s from (first + (y - at)) (omega (arith, low)))
            ∙ ap (λ t. t && bit (y - at)) (le_true up) ∙ bits (y - at) (omega (arith, up, down))
            ∙ sym (image_at back cover (before s next) (inside_before next) (first + (y - at)) y b ∙ has_before s next (first + (y - at)) (omega (arith, up, down)))
      ]
    ]
      where
        le_false : y < at → nat_le at y ≡ false
        le_false lt = grind (arith, lt)

        le_true : at ≤ y → nat_le at y ≡ true
        le_true le = grind (arith, le)

    -- what they become is greater than what those before become
    pub after_before : has s first ≡ true → (q : ℕ) → has (image back cover (before s from)) q ≡ true → q < at
    after_before there q one =
        let f = image_from back cover (before s from) (inside_before from) q one in
        let p = before_parts s from f.0 f.1 in
        becomes_increases back cover f.0 q first at f.2 (run.moved.moves first run.start (omega (arith, fits))) (omega (arith, p.1, low))

    -- with the bits put behind what was there, the members before the next number are
    pub put_next : (old was new : Ranks) (bit : ℕ → Bool) → was ≡ union old (image back cover (before s from)) → ((q : ℕ) → has new q ≡ (has was q || (nat_le at q && bit (q - at)))) → ((i : ℕ) → i ≤ len → bit i ≡ has s (first + i)) → ((i : ℕ) → len < i → bit i ≡ false) → new ≡ union old (image back cover (before s next))
    put_next old was new bit is more bits past = same_ranks _ _ (λ q.
        more q ∙ ap (λ t. has t q || (nat_le at q && bit (q - at))) is ∙ ap (λ b. b || (nat_le at q && bit (q - at))) (has-union old (image back cover (before s from)) q)
        ∙ or_assoc (has old q) (has (image back cover (before s from)) q) (nat_le at q && bit (q - at)) ∙ ap (λ b. has old q || b) (moved_on bit bits past q)
        ∙ sym (has-union old (image back cover (before s next)) q))

    -- the same with a whole run of members
    pub put_run : (was new : Ranks) → was ≡ image back cover (before s from) → new ≡ union was (ranks_between at (at + len)) → ((x : ℕ) → first ≤ x → x ≤ first + len → has s x ≡ true) → new ≡ image back cover (before s next)
    put_run was new is more there = same_ranks _ _ (λ q.
        ap (λ t. has t q) more ∙ has-union was (ranks_between at (at + len)) q ∙ ap (λ t. has t q || has (ranks_between at (at + len)) q) is ∙ ap (λ b. has (image back cover (before s from)) q || b) (one_run q)
        ∙ moved_on (λ i. nat_le i len) (λ i le. le-leb i len le ∙ sym (there (first + i) (omega arith) (omega (arith, le)))) (λ i lt. lt-leb i len lt) q)
      where
        one_run : (q : ℕ) → has (ranks_between at (at + len)) q ≡ (nat_le at q && nat_le (q - at) len)
        one_run q = elim (cases_lt q at) [
          | inl lt ↦ between_low at (at + len) q lt ∙ ap (λ b. b && nat_le (q - at) len) (sym (lt-leb at q lt))
          | inr up ↦ elim (cases_lt (at + len) q) [
            | inl past ↦ between_high at (at + len) q past ∙ sym (and_false (nat_le at q)) ∙ ap (λ b. nat_le at q && b) (sym (lt-leb (q - at) len (omega (arith, past))))
            | inr down ↦ between_in at (at + len) q up down ∙ sym (λ k. le-leb at q up k && le-leb (q - at) len (omega (arith, down)) k)
          ]
        ]

    -- and they are greater than what was there
    pub put_above : (old was : Ranks) → was ≡ union old (image back cover (before s from)) → has s first ≡ true → ((q x y : ℕ) → has old q ≡ true → from ≤ x → Becomes back cover x y → q < y) → (q : ℕ) → has was q ≡ true → q < at
    put_above old was is there above q one = elim (or_cases (has old q) (has (image back cover (before s from)) q) (sym (ap (λ t. has t q) is ∙ has-union old (image back cover (before s from)) q) ∙ one)) [
      | inl before_it ↦ above q first at before_it low (run.moved.moves first run.start (omega (arith, fits)))
      | inr moved ↦ after_before there q moved
    ]
