-- Values in chunks, as one list.
use Rattle.std.proofs.Common.{◌≡◌, ℕ, zero, suc, ◌+◌, ◌-◌, ◌*◌, ◌/◌, ◌%◌, ◌^◌, ◌<◌, ◌≤◌, List, [], ◌∷◌, ◌++◌, length, get_or, set, refl, sym, ap, ◌∙◌, subst, append_assoc, append-nil, arith, length-append, length-set}
use Rattle.std.specs.Prelude.{min, Result, OnErr}
use Rattle.std.specs.declared.result.Result.TheVariants.{Ok, Err}
use Rattle.std.proofs.Math.ListN.{get_or-append}
use Rattle.std.proofs.lemmas.List.{get_or-append-add, set-append_left, set-append_right}
use Rattle.std.specs.Prelude.{slice_get, Some}
use Rattle.std.proofs.lemmas.Option.{slice_get_read, get_or_from_slice_get}
use Rattle.std.proofs.lemmas.Nat.{div-add-mod'}
use Rattle.node_arena.specs.Arena.{Arena, Chunk, with_item}
use Rattle.node_arena.specs.Layout.{chunks_view, IsPacked, IsArena, IsGrown, IsCleared}
use Rattle.node_arena.specs.declared.TheConstants.{CHUNK_CAPACITY}

-- the chunk of a place, and which of the chunk's values it is
abbrev pub chunk_index : ℕ → ℕ
chunk_index p = p / CHUNK_CAPACITY

abbrev pub chunk_offset : ℕ → ℕ
chunk_offset p = p % CHUNK_CAPACITY

pub split_place : (p : ℕ) → chunk_index p * CHUNK_CAPACITY + chunk_offset p ≡ p
split_place p = div-add-mod' p CHUNK_CAPACITY

-- as many chunks as `reserve` asks for have room for n values
pub room_for : (n chunks : ℕ) → (n - 1) / CHUNK_CAPACITY + 1 ≤ chunks → n ≤ chunks * CHUNK_CAPACITY
room_for n chunks enough = omega (arith, enough, split_place (n - 1))

pub on_err : {T E P : Type 0} (r : Result T E) → P → OnErr r P
on_err (Ok x) p = tt
on_err (Err e) p = p

module _ {T : Type 0} where
  -- the values are counted
  pub packed_count : (n : ℕ) (cs : List (Chunk T)) → IsPacked n cs → length (chunks_view cs) ≡ n
  packed_count n [] p = sym p
  packed_count n (c ∷ cs) p =
      omega (arith, length-append c.items (chunks_view cs), p.1, packed_count (n - CHUNK_CAPACITY) cs p.2)

  -- what a caller knows of the arena, in terms of its fields
  pub view_count : (n spare : ℕ) (cs : List (Chunk T)) (a : Arena T) → IsPacked n cs
      → record { items = chunks_view cs; spare = spare } ≡ a → length a.items ≡ n
  view_count n spare cs a p view = ap (λ b. length b.items) (sym view) ∙ packed_count n cs p

  pub view_below : (n spare place : ℕ) (cs : List (Chunk T)) (a : Arena T) → IsPacked n cs
      → record { items = chunks_view cs; spare = spare } ≡ a → place < length a.items → place < n
  view_below n spare place cs a p view lt = subst (λ (k : ℕ). place < k) (view_count n spare cs a p view) lt

  pub view_spare : (spare : ℕ) (cs : List (Chunk T)) (a : Arena T)
      → record { items = chunks_view cs; spare = spare } ≡ a → 1 ≤ a.spare → 1 ≤ spare
  view_spare spare cs a view some = subst (λ (k : ℕ). 1 ≤ k) (ap (λ b. b.spare) (sym view)) some

  -- what the k-th chunk holds
  pub packed_at : (n : ℕ) (cs : List (Chunk T)) (k : ℕ) (d : Chunk T) → IsPacked n cs → k < length cs
      → ((get_or cs k d).capacity ≡ CHUNK_CAPACITY) × (length (get_or cs k d).items ≡ min (n - k * CHUNK_CAPACITY) CHUNK_CAPACITY)
  packed_at n [] k d p lt = absurd (omega arith)
  packed_at n (c ∷ cs) zero d p lt = (p.0, omega (arith, p.1))
  packed_at n (c ∷ cs) (suc k) d p lt =
      let it = packed_at (n - CHUNK_CAPACITY) cs k d p.2 (omega arith) in
      (it.0, omega (arith, it.1))

  -- each value is in one of the chunks
  pub packed_room : (n : ℕ) (cs : List (Chunk T)) → IsPacked n cs → n ≤ length cs * CHUNK_CAPACITY
  packed_room n [] p = omega (arith, p)
  packed_room n (c ∷ cs) p = omega (arith, packed_room (n - CHUNK_CAPACITY) cs p.2)

  -- a value by its chunk and its place there
  pub get_or-chunks_view : (n : ℕ) (cs : List (Chunk T)) (k j : ℕ) (e : Chunk T) (d : T) → IsPacked n cs
      → k < length cs → j < length (get_or cs k e).items
      → get_or (chunks_view cs) (k * CHUNK_CAPACITY + j) d ≡ get_or (get_or cs k e).items j d
  get_or-chunks_view n [] k j e d p lt at = absurd (omega arith)
  get_or-chunks_view n (c ∷ cs) zero j e d p lt at =
      let here : zero * CHUNK_CAPACITY + j ≡ j = omega arith in
      ap (λ (i : ℕ). get_or (c.items ++ chunks_view cs) i d) here ∙ get_or-append c.items (chunks_view cs) d j at
  get_or-chunks_view n (c ∷ cs) (suc k) j e d p lt at =
      let it = packed_at (n - CHUNK_CAPACITY) cs k e p.2 (omega arith) in
      let there : suc k * CHUNK_CAPACITY + j ≡ length c.items + (k * CHUNK_CAPACITY + j) = omega (arith, p.1, it.1) in
      ap (λ (i : ℕ). get_or (c.items ++ chunks_view cs) i d) there
      ∙ get_or-append-add c.items (chunks_view cs) (k * CHUNK_CAPACITY + j) d
      ∙ get_or-chunks_view (n - CHUNK_CAPACITY) cs k j e d p.2 (omega arith) at

  -- a write of one value
  pub set-chunks_view : (n : ℕ) (cs : List (Chunk T)) (k j : ℕ) (e : Chunk T) (w : T) → IsPacked n cs → k < length cs
      → j < length (get_or cs k e).items
      → chunks_view (set cs k (with_item (get_or cs k e) j w)) ≡ set (chunks_view cs) (k * CHUNK_CAPACITY + j) w
  set-chunks_view n [] k j e w p lt at = absurd (omega arith)
  set-chunks_view n (c ∷ cs) zero j e w p lt at =
      let here : j ≡ zero * CHUNK_CAPACITY + j = omega arith in
      sym (set-append_left c.items (chunks_view cs) j w at) ∙ ap (λ (i : ℕ). set (c.items ++ chunks_view cs) i w) here
  set-chunks_view n (c ∷ cs) (suc k) j e w p lt at =
      let it = packed_at (n - CHUNK_CAPACITY) cs k e p.2 (omega arith) in
      let there : (suc k * CHUNK_CAPACITY + j) - length c.items ≡ k * CHUNK_CAPACITY + j = omega (arith, p.1, it.1) in
      ap (λ (ys : List T). c.items ++ ys) (set-chunks_view (n - CHUNK_CAPACITY) cs k j e w p.2 (omega arith) at)
      ∙ ap (λ (i : ℕ). c.items ++ set (chunks_view cs) i w) (sym there)
      ∙ sym (set-append_right c.items (chunks_view cs) (length c.items) (suc k * CHUNK_CAPACITY + j) w refl (omega (arith, p.1, it.1)))

  pub packed-set : (n : ℕ) (cs : List (Chunk T)) (k j : ℕ) (e : Chunk T) (w : T) → IsPacked n cs → k < length cs
      → IsPacked n (set cs k (with_item (get_or cs k e) j w))
  packed-set n [] k j e w p lt = p
  packed-set n (c ∷ cs) zero j e w p lt = (p.0, length-set c.items j w ∙ p.1, p.2)
  packed-set n (c ∷ cs) (suc k) j e w p lt = (p.0, p.1, packed-set (n - CHUNK_CAPACITY) cs k j e w p.2 (omega arith))

  -- no values: nothing in any chunk
  pub none_packed : (cs : List (Chunk T)) → IsPacked 0 cs → chunks_view cs ≡ []
  none_packed [] p = refl
  none_packed (c ∷ cs) p =
      nil_append c.items (chunks_view cs) (omega (arith, p.1)) (none_packed cs (subst (λ (n : ℕ). IsPacked n cs) (omega arith) p.2))
    where
      nil_append : (xs ys : List T) → length xs ≡ 0 → ys ≡ [] → xs ++ ys ≡ []
      nil_append [] ys e f = f
      nil_append (x ∷ xs) ys e f = absurd (omega arith)

  -- one more value, in the first chunk that isn't full
  pub put-chunks_view : (n : ℕ) (cs : List (Chunk T)) (k : ℕ) (e c' : Chunk T) (x : T) → IsPacked n cs
      → k * CHUNK_CAPACITY ≤ n → n < k * CHUNK_CAPACITY + CHUNK_CAPACITY → k < length cs
      → c'.items ≡ (get_or cs k e).items ++ x ∷ [] → chunks_view (set cs k c') ≡ chunks_view cs ++ x ∷ []
  put-chunks_view n [] k e c' x p low high lt is = absurd (omega arith)
  put-chunks_view n (c ∷ cs) zero e c' x p low high lt is =
      let rest : chunks_view cs ≡ [] = none_packed cs (subst (λ (m : ℕ). IsPacked m cs) (omega arith) p.2) in
      ap (λ (ys : List T). ys ++ chunks_view cs) is ∙ ap (λ (ys : List T). (c.items ++ x ∷ []) ++ ys) rest
      ∙ append-nil (c.items ++ x ∷ [])
      ∙ ap (λ (ys : List T). ys ++ x ∷ []) (sym (ap (λ (ys : List T). c.items ++ ys) rest ∙ append-nil c.items))
  put-chunks_view n (c ∷ cs) (suc k) e c' x p low high lt is =
      ap (λ (ys : List T). c.items ++ ys) (put-chunks_view (n - CHUNK_CAPACITY) cs k e c' x p.2 (omega arith) (omega arith) (omega arith) is)
      ∙ sym (append_assoc c.items (chunks_view cs) (x ∷ []))

  pub packed-put : (n : ℕ) (cs : List (Chunk T)) (k : ℕ) (e c' : Chunk T) (x : T) → IsPacked n cs
      → k * CHUNK_CAPACITY ≤ n → n < k * CHUNK_CAPACITY + CHUNK_CAPACITY → k < length cs
      → c'.items ≡ (get_or cs k e).items ++ x ∷ [] → c'.capacity ≡ (get_or cs k e).capacity
      → IsPacked (n + 1) (set cs k c')
  packed-put n [] k e c' x p low high lt is room = absurd (omega arith)
  packed-put n (c ∷ cs) zero e c' x p low high lt is room =
      (room ∙ p.0, ap length is ∙ omega (arith, length-append c.items (x ∷ []), p.1), subst (λ (m : ℕ). IsPacked m cs) (omega arith) p.2)
  packed-put n (c ∷ cs) (suc k) e c' x p low high lt is room =
      let next : (n - CHUNK_CAPACITY) + 1 ≡ (n + 1) - CHUNK_CAPACITY = omega arith in
      (p.0, omega (arith, p.1), subst (λ (m : ℕ). IsPacked m (set cs k c')) next (packed-put (n - CHUNK_CAPACITY) cs k e c' x p.2 (omega arith) (omega arith) (omega arith) is room))

  -- chunks that were added hold no value, and the others are where they were
  pub grown_same : (cs : List (Chunk T)) → IsGrown cs cs
  grown_same [] = tt
  grown_same (c ∷ cs) = (refl, grown_same cs)

  pub grown_push : (cs ds : List (Chunk T)) (c : Chunk T) → c.items ≡ [] → c.capacity ≡ CHUNK_CAPACITY → IsGrown cs ds
      → IsGrown cs (ds ++ c ∷ [])
  grown_push [] [] c none room g = (none, room, tt)
  grown_push [] (d ∷ ds) c none room g = (g.0, g.1, grown_push [] ds c none room g.2)
  grown_push (b ∷ cs) [] c none room g = absurd g
  grown_push (b ∷ cs) (d ∷ ds) c none room g = (g.0, grown_push cs ds c none room g.1)

  pub grown_view : (cs ds : List (Chunk T)) → IsGrown cs ds → chunks_view ds ≡ chunks_view cs
  grown_view [] [] g = refl
  grown_view [] (d ∷ ds) g = ap (λ (xs : List T). xs ++ chunks_view ds) g.0 ∙ grown_view [] ds g.2
  grown_view (c ∷ cs) [] g = absurd g
  grown_view (c ∷ cs) (d ∷ ds) g =
      ap (λ (h : Chunk T). h.items ++ chunks_view ds) g.0 ∙ ap (λ (xs : List T). c.items ++ xs) (grown_view cs ds g.1)

  pub grown_packed : (n : ℕ) (cs ds : List (Chunk T)) → IsPacked n cs → IsGrown cs ds → IsPacked n ds
  grown_packed n [] [] p g = p
  grown_packed n [] (d ∷ ds) p g =
      (g.1, ap length g.0 ∙ omega (arith, p), grown_packed (n - CHUNK_CAPACITY) [] ds (omega (arith, p)) g.2)
  grown_packed n (c ∷ cs) [] p g = absurd g
  grown_packed n (c ∷ cs) (d ∷ ds) p g =
      (ap (λ (h : Chunk T). h.capacity) g.0 ∙ p.0, ap (λ (h : Chunk T). length h.items) g.0 ∙ p.1, grown_packed (n - CHUNK_CAPACITY) cs ds p.2 g.1)

  pub grown_length : (cs ds : List (Chunk T)) → IsGrown cs ds → length cs ≤ length ds
  grown_length [] ds g = omega arith
  grown_length (c ∷ cs) [] g = absurd g
  grown_length (c ∷ cs) (d ∷ ds) g = omega (arith, grown_length cs ds g.1)

  -- chunks that were cleared hold no value
  pub cleared_packed : (n : ℕ) (cs ds : List (Chunk T)) → IsPacked n cs → IsCleared cs ds → IsPacked 0 ds
  cleared_packed n cs [] p c = refl
  cleared_packed n [] (d ∷ ds) p c = absurd (omega (arith, c.count))
  cleared_packed n (c ∷ cs) (d ∷ ds) p cl =
      let rest : IsCleared cs ds = record { count = omega (arith, cl.count); empty = λ k e lt. cl.empty (suc k) e (omega arith); capacity = λ k e lt. cl.capacity (suc k) e (omega arith) } in
      (cl.capacity 0 d (omega arith) ∙ p.0, ap length (cl.empty 0 d (omega arith)), subst (λ (m : ℕ). IsPacked m ds) (omega arith) (cleared_packed (n - CHUNK_CAPACITY) cs ds p.2 rest))

  pub chunk_inside : (n : ℕ) (cs : List (Chunk T)) (p : ℕ) → IsPacked n cs → p < n → chunk_index p < length cs
  chunk_inside n cs p pk lt = omega (arith, packed_room n cs pk, split_place p)

  pub place_inside : (n : ℕ) (cs : List (Chunk T)) (p : ℕ) (e : Chunk T) → IsPacked n cs → p < n
      → chunk_offset p < length (get_or cs (chunk_index p) e).items
  place_inside n cs p e pk lt =
      let it = packed_at n cs (chunk_index p) e pk (chunk_inside n cs p pk lt) in
      omega (arith, it.1, split_place p)

  -- a value that its chunk has is the arena's
  pub get_placed : (n : ℕ) (cs : List (Chunk T)) (p : ℕ) (e : Chunk T) (x : T) → IsPacked n cs → p < n
      → slice_get (get_or cs (chunk_index p) e).items (chunk_offset p) ≡ Some x → slice_get (chunks_view cs) p ≡ Some x
  get_placed n cs p e x pk lt is =
      let at = get_or-chunks_view n cs (chunk_index p) (chunk_offset p) e x pk (chunk_inside n cs p pk lt) (place_inside n cs p e pk lt) in
      let found = get_or_from_slice_get (get_or cs (chunk_index p) e).items (chunk_offset p) x x is in
      slice_get_read (chunks_view cs) n p x (sym (packed_count n cs pk)) lt (sym (ap (λ (i : ℕ). get_or (chunks_view cs) i x) (sym (split_place p)) ∙ at ∙ found))

  pub set_placed : (n : ℕ) (cs : List (Chunk T)) (p : ℕ) (e : Chunk T) (w : T) → IsPacked n cs → p < n
      → chunks_view (set cs (chunk_index p) (with_item (get_or cs (chunk_index p) e) (chunk_offset p) w)) ≡ set (chunks_view cs) p w
  set_placed n cs p e w pk lt =
      set-chunks_view n cs (chunk_index p) (chunk_offset p) e w pk (chunk_inside n cs p pk lt) (place_inside n cs p e pk lt) ∙ ap (λ (i : ℕ). set (chunks_view cs) i w) (split_place p)

  -- the first k chunks were emptied
  pub record ClearedTo (k : ℕ) (cs ds : List (Chunk T)) : Type 0 where
    pub count : length ds ≡ length cs
    pub empty : (j : ℕ) (d : Chunk T) → j < k → (get_or ds j d).items ≡ []
    pub capacity : (j : ℕ) (d : Chunk T) → j < length ds → (get_or ds j d).capacity ≡ (get_or cs j d).capacity

  -- where the next value goes
  pub next_inside : (n : ℕ) (cs : List (Chunk T)) (spare : ℕ) → IsArena cs n spare → 1 ≤ spare
      → chunk_index n < length cs
  next_inside n cs spare a some = omega (arith, a.fits, split_place n)

  pub next_room : (n : ℕ) (cs : List (Chunk T)) (spare : ℕ) (e : Chunk T) → IsArena cs n spare → 1 ≤ spare
      → length (get_or cs (chunk_index n) e).items < (get_or cs (chunk_index n) e).capacity
  next_room n cs spare e a some =
      let it = packed_at n cs (chunk_index n) e a.packed (next_inside n cs spare a some) in
      omega (arith, it.0, it.1, split_place n)

  pub arena_put : (n : ℕ) (cs : List (Chunk T)) (spare : ℕ) (e c' : Chunk T) (x : T) → IsArena cs n spare → 1 ≤ spare
      → e ≡ get_or cs (chunk_index n) e
      → c'.items ≡ e.items ++ x ∷ [] → c'.capacity ≡ e.capacity
      → IsArena (set cs (chunk_index n) c') (n + 1) (spare - 1)
  arena_put n cs spare e c' x a some is items room = record {
    packed =
        packed-put n cs (chunk_index n) e c' x a.packed (omega (arith, split_place n)) (omega (arith, split_place n)) (next_inside n cs spare a some)
        (items ∙ ap (λ (h : Chunk T). h.items ++ x ∷ []) is) (room ∙ ap (λ (h : Chunk T). h.capacity) is);
    fits = omega (arith, a.fits, length-set cs (chunk_index n) c');
    in_range = omega (arith, a.in_range);
  }

  pub items_put : (n : ℕ) (cs : List (Chunk T)) (spare : ℕ) (e c' : Chunk T) (x : T) → IsArena cs n spare → 1 ≤ spare
      → e ≡ get_or cs (chunk_index n) e
      → c'.items ≡ e.items ++ x ∷ [] → chunks_view (set cs (chunk_index n) c') ≡ chunks_view cs ++ x ∷ []
  items_put n cs spare e c' x a some is items =
      put-chunks_view n cs (chunk_index n) e c' x a.packed (omega (arith, split_place n)) (omega (arith, split_place n)) (next_inside n cs spare a some)
      (items ∙ ap (λ (h : Chunk T). h.items ++ x ∷ []) is)

  -- a write through a `&mut` to a value
  pub arena_set : (n : ℕ) (cs : List (Chunk T)) (spare p : ℕ) (e : Chunk T) (w : T) → IsArena cs n spare → p < n
      → e ≡ get_or cs (chunk_index p) e
      → IsArena (set cs (chunk_index p) (with_item e (chunk_offset p) w)) n spare
  arena_set n cs spare p e w a lt is =
      subst (λ (h : Chunk T). IsArena (set cs (chunk_index p) (with_item h (chunk_offset p) w)) n spare) (sym is)
      (record {
        packed = packed-set n cs (chunk_index p) (chunk_offset p) e w a.packed (chunk_inside n cs p a.packed lt);
        fits =
            omega (arith, a.fits, length-set cs (chunk_index p) (with_item (get_or cs (chunk_index p) e) (chunk_offset p) w));
        in_range = a.in_range;
      })

  pub items_set : (n : ℕ) (cs : List (Chunk T)) (spare p : ℕ) (e : Chunk T) (w : T) → IsArena cs n spare → p < n
      → e ≡ get_or cs (chunk_index p) e
      → chunks_view (set cs (chunk_index p) (with_item e (chunk_offset p) w)) ≡ set (chunks_view cs) p w
  items_set n cs spare p e w a lt is =
      subst (λ (h : Chunk T). chunks_view (set cs (chunk_index p) (with_item h (chunk_offset p) w)) ≡ set (chunks_view cs) p w) (sym is) (set_placed n cs p e w a.packed lt)

  -- chunks were added, and room is promised in them
  pub arena_grown : (cs ds : List (Chunk T)) (n spare more : ℕ) → IsArena cs n spare → IsGrown cs ds
      → n + more < 2 ^ 32 → n + more ≤ length ds * CHUNK_CAPACITY → IsArena ds n more
  arena_grown cs ds n spare more a g in_range fits = record { packed = grown_packed n cs ds a.packed g; fits = fits; in_range = in_range }

  -- chunks were added, and no room is promised in them
  pub arena_longer : (cs ds : List (Chunk T)) (n spare : ℕ) → IsArena cs n spare → IsGrown cs ds → IsArena ds n spare
  arena_longer cs ds n spare a g =
      arena_grown cs ds n spare spare a g a.in_range (omega (arith, a.fits, grown_length cs ds g))

  pub arena_cleared : (cs ds : List (Chunk T)) (n spare : ℕ) → IsArena cs n spare → IsCleared cs ds
      → IsArena ds 0 (spare + n)
  arena_cleared cs ds n spare a cl = record {
    packed = cleared_packed n cs ds a.packed cl;
    fits = omega (arith, a.fits, cl.count);
    in_range = omega (arith, a.in_range);
  }

  pub items_cleared : (cs ds : List (Chunk T)) (n spare : ℕ) → IsArena cs n spare → IsCleared cs ds
      → chunks_view ds ≡ []
  items_cleared cs ds n spare a cl = none_packed ds (cleared_packed n cs ds a.packed cl)
