-- Sends, one after the other, and the room for them.
use Rattle.std.proofs.Common.{◌≡◌, ◌≢◌, ◌∙◌, ◌+◌, ◌-◌, ◌<◌, ◌≤◌, inl, inr, ℕ, zero, suc, Bool, true, false, ◌==◌, ◌&&◌, ◌||◌, cond, List, [], ◌∷◌, ◌++◌, length, take, get_or, slice_set, refl, sym, ap, subst, eqb-true, arith, append-nil, append_assoc}
use Rattle.std.proofs.lemmas.Bool.{cases_Bool, cases_lt, cond_both, eqb-false, true≢false}
use Rattle.std.proofs.lemmas.List.{get_or-set_other, get_or-set_same}
use Rattle.std.proofs.lemmas.List.Folds.{list_any_more}
use Rattle.node_inbox.specs.Inboxes.{InboxView, queue_of, room_for}
use Rattle.node_inbox.specs.Sends.{AreSent, GoBelow, HaveRoom, UseRoom, inbox_at, is_alive, is_receiver, no_inbox, packets_to, room_at}

module _ {X : Type 0} where
  -- ---- what goes to a node

  -- one more item
  pub packets_more : (n i : ℕ) (xs : List (ℕ × X)) (v : ℕ × X) → i < length xs → v ≡ get_or xs i v
      → length (packets_to n (take (i + 1) xs)) ≡ cond (v.0 == n) (length (packets_to n (take i xs)) + 1) (length (packets_to n (take i xs)))
  packets_more n i [] v lt is = absurd (omega arith)
  packets_more n zero (x ∷ xs) v lt is = ap (λ (y : ℕ × X). length (cond (y.0 == n) (y.1 ∷ []) [])) (sym is) ∙ one (v.0 == n)
    where
      one : (b : Bool) → length (cond b (v.1 ∷ []) []) ≡ cond b (0 + 1) 0
      one true = refl
      one false = refl
  packets_more n (suc i) (x ∷ xs) v lt is =
      let e : suc i + 1 ≡ suc (i + 1) = omega arith in
      ap (λ j. length (packets_to n (take j (x ∷ xs)))) e ∙ step (x.0 == n) (v.0 == n) (packets_to n (take (i + 1) xs)) (packets_to n (take i xs)) (packets_more n i xs v (omega arith) is)
    where
      step : (a b : Bool) (p q : List X) → length p ≡ cond b (length q + 1) (length q)
          → length (cond a (x.1 ∷ p) p) ≡ cond b (length (cond a (x.1 ∷ q) q) + 1) (length (cond a (x.1 ∷ q) q))
      step true true p q h = omega arith
      step true false p q h = omega arith
      step false b p q h = h

  -- one more item, in the run or in a new one
  pub runs_enough : (i runs next more : ℕ) (xs : List (ℕ × X)) (v : ℕ × X) → i < length xs → v ≡ get_or xs i v
      → ((b : ℕ) → length (packets_to b (take i xs)) ≤ runs) → ((b : ℕ) → next ≤ b → length (packets_to b (take i xs)) + 1 ≤ runs)
      → runs ≤ more → (v.0 < next → runs + 1 ≤ more) → (b : ℕ) → length (packets_to b (take (i + 1) xs)) ≤ more
  runs_enough i runs next more xs v lt is enough beyond grows new b =
      subst (λ n. n ≤ more) (sym (packets_more b i xs v lt is)) (cond_both {A = ℕ} (v.0 == b) (length (packets_to b (take i xs)) + 1) (length (packets_to b (take i xs))) (λ n. n ≤ more)
      (λ t. let same = eqb-true v.0 b t in let a = enough b in elim (cases_lt v.0 next) [ inl l ↦ (let c = new l in omega arith) | inr g ↦ (let c = beyond b (omega arith) in omega arith) ])
      (λ f. let a = enough b in omega arith))

  pub runs_beyond : (i runs next more : ℕ) (xs : List (ℕ × X)) (v : ℕ × X) → i < length xs → v ≡ get_or xs i v
      → ((b : ℕ) → length (packets_to b (take i xs)) ≤ runs) → ((b : ℕ) → next ≤ b → length (packets_to b (take i xs)) + 1 ≤ runs)
      → runs ≤ more → (v.0 < next → runs + 1 ≤ more) → (b : ℕ) → v.0 + 1 ≤ b → length (packets_to b (take (i + 1) xs)) + 1 ≤ more
  runs_beyond i runs next more xs v lt is enough beyond grows new b past =
      subst (λ n. n + 1 ≤ more) (sym (packets_more b i xs v lt is)) (cond_both {A = ℕ} (v.0 == b) (length (packets_to b (take i xs)) + 1) (length (packets_to b (take i xs))) (λ n. n + 1 ≤ more)
      (λ t. let same = eqb-true v.0 b t in absurd (omega arith))
      (λ f. let a = enough b in elim (cases_lt v.0 next) [ inl l ↦ (let c = new l in omega arith) | inr g ↦ (let c = beyond b (omega arith) in omega arith) ]))

  -- where nothing goes to a node
  pub no_packets : (b : ℕ) (vs : List (ℕ × X)) → is_receiver vs b ≡ false → packets_to b vs ≡ []
  no_packets b [] h = refl
  no_packets b (v ∷ vs) h = go (v.0 == b) h (no_packets b vs)
    where
      go : (t : Bool) → (t || is_receiver vs b) ≡ false → (is_receiver vs b ≡ false → packets_to b vs ≡ []) → cond t (v.1 ∷ packets_to b vs) (packets_to b vs) ≡ []
      go true e rest = absurd (true≢false e)
      go false e rest = rest e

  -- the first item, and the others
  pub packets_first : (b : ℕ) (v : ℕ × X) (vs : List (ℕ × X)) → length (packets_to b (v ∷ vs)) ≡ length (packets_to b (v ∷ [])) + length (packets_to b vs)
  packets_first b v vs = go (v.0 == b)
    where
      go : (t : Bool) → length (cond t (v.1 ∷ packets_to b vs) (packets_to b vs)) ≡ length (cond t (v.1 ∷ []) []) + length (packets_to b vs)
      go true = omega arith
      go false = omega arith

  pub below_at : (n i : ℕ) (xs : List (ℕ × X)) (v : ℕ × X) → GoBelow n xs → i < length xs → v ≡ get_or xs i v → v.0 < n
  below_at n i [] v h lt is = absurd (omega arith)
  below_at n zero (x ∷ xs) v h lt is = subst (λ (y : ℕ × X). y.0 < n) (sym is) h.0
  below_at n (suc i) (x ∷ xs) v h lt is = below_at n i xs v h.1 (omega arith) is

  -- ---- an inbox in the place of another one

  pub inbox_cases : (ib : List (InboxView X)) (n b : ℕ) (w : InboxView X) → n < length ib → (P : InboxView X → Type 0) → (b ≡ n → P w) → (b ≢ n → P (get_or ib b no_inbox)) → P (get_or (slice_set ib n w) b no_inbox)
  inbox_cases ib n b w below P here else = elim (cases_Bool (b == n)) [
    | inl t ↦ let s : b ≡ n = eqb-true b n t in subst P (sym (ap (λ k. get_or (slice_set ib n w) k no_inbox) s ∙ get_or-set_same ib n w no_inbox below)) (here s)
    | inr f ↦ let ne = eqb-false b n f in subst P (sym (get_or-set_other ib n b w no_inbox ne)) (else ne)
  ]

  -- room was made in one inbox
  pub made_same : (n : ℕ) (ib : List (InboxView X)) (old new : InboxView X) → n < length ib → old ≡ get_or ib n no_inbox → new.waiting ≡ old.waiting
      → (b : ℕ) → inbox_at (slice_set ib n new) b ≡ inbox_at ib b
  made_same n ib old new below is same b = inbox_cases ib n b new below (λ w. w.waiting ≡ inbox_at ib b)
      (λ s. same ∙ ap (λ (w : InboxView X). w.waiting) is ∙ ap (inbox_at ib) (sym s))
      (λ ne. refl)

  pub made_grows : (n : ℕ) (ib : List (InboxView X)) (old new : InboxView X) → n < length ib → old ≡ get_or ib n no_inbox → ((m : ℕ) → room_for old m ≤ room_for new m)
      → (b m : ℕ) → room_at ib b m ≤ room_at (slice_set ib n new) b m
  made_grows n ib old new below is grows b m = inbox_cases ib n b new below (λ w. room_at ib b m ≤ room_for w m)
      (λ s. let a = grows m in let c : room_for old m ≡ room_at ib b m = ap (λ (w : InboxView X). room_for w m) is ∙ ap (λ k. room_at ib k m) (sym s) in omega arith)
      (λ ne. omega arith)

  -- ---- room for what is sent, receiver by receiver

  -- the receivers of the first i items have room for all that is sent to them
  abbrev pub HaveRoomTo : ℕ → ℕ → List (ℕ × X) → List (InboxView X) → Type 0
  HaveRoomTo from i sends ib = (b : ℕ) → is_receiver (take i sends) b ≡ true → length (packets_to b sends) ≤ room_at ib b from

  pub room_more : (from i count : ℕ) (sends : List (ℕ × X)) (v : ℕ × X) (ib : List (InboxView X)) (old new : InboxView X) → i < length sends → v ≡ get_or sends i v
      → v.0 < length ib → old ≡ get_or ib v.0 no_inbox → ((m : ℕ) → room_for old m ≤ room_for new m) → length (packets_to v.0 sends) ≤ count → count ≤ room_for new from
      → HaveRoomTo from i sends ib → HaveRoomTo from (i + 1) sends (slice_set ib v.0 new)
  room_more from i count sends v ib old new lt is below was grows counted enough before b receives =
      inbox_cases ib v.0 b new below (λ w. length (packets_to b sends) ≤ room_for w from)
      (λ s. let a : length (packets_to b sends) ≡ length (packets_to v.0 sends) = ap (λ k. length (packets_to k sends)) s in omega arith)
      (λ ne. before b (earlier ne))
    where
      either : (s t : Bool) → (s || t) ≡ true → t ≡ false → s ≡ true
      either true t e f = refl
      either false t e f = absurd (true≢false (sym e ∙ f))

      other : b ≢ v.0 → (v.0 == b) ≡ false
      other ne = elim (cases_Bool (v.0 == b)) [ inl t ↦ absurd (ne (sym (eqb-true v.0 b t))) | inr f ↦ f ]

      earlier : b ≢ v.0 → is_receiver (take i sends) b ≡ true
      earlier ne =
          either (is_receiver (take i sends) b) (v.0 == b)
          (ap (λ (y : ℕ × X). is_receiver (take i sends) b || (y.0 == b)) is ∙ sym (list_any_more (λ y. y.0 == b) sends i v lt) ∙ receives) (other ne)

  pub room_all : (from i : ℕ) (sends : List (ℕ × X)) (ib : List (InboxView X)) → take i sends ≡ sends → HaveRoomTo from i sends ib → HaveRoom from sends ib
  room_all from i sends ib all h b = elim (cases_Bool (is_receiver sends b)) [
    | inl t ↦ h b (ap (λ l. is_receiver l b) all ∙ t)
    | inr f ↦ let e : length (packets_to b sends) ≡ 0 = ap length (no_packets b sends f) in omega arith
  ]

  -- ---- what is sent

  pub nothing_sent : (al : List Bool) (from : ℕ) (ib : List (InboxView X)) → AreSent al from [] ib ib
  nothing_sent al from ib = record {
    queues = λ a b. queue ((a == from) && is_alive al b) (queue_of (inbox_at ib b) a);
    others = λ b e. refl;
    inbox_count = refl;
    inboxes = λ is b. is b;
  }
    where
      queue : (t : Bool) (q : List X) → q ≡ cond t (q ++ []) q
      queue true q = sym (append-nil q)
      queue false q = refl

  -- an item, and then the others
  pub one_and_others : (al : List Bool) (from : ℕ) (v : ℕ × X) (vs : List (ℕ × X)) (ia ib ic : List (InboxView X)) → AreSent al from (v ∷ []) ia ib → AreSent al from vs ib ic → AreSent al from (v ∷ vs) ia ic
  one_and_others al from v vs ia ib ic h k = record {
    queues = λ a b. k.queues a b ∙ queue a b ((a == from) && is_alive al b) refl;
    others = λ b e. let t = or_parts (v.0 == b) (is_receiver vs b) (is_alive al b) e in k.others b t.1 ∙ h.others b t.0;
    inbox_count = k.inbox_count ∙ h.inbox_count;
    inboxes = λ is. k.inboxes (h.inboxes is);
  }
    where
      or_parts : (s t u : Bool) → ((s || t) && u) ≡ false → (((s || false) && u) ≡ false) × ((t && u) ≡ false)
      or_parts true t true e = absurd (true≢false e)
      or_parts true true false e = (refl, refl)
      or_parts true false false e = (refl, refl)
      or_parts false t u e = (refl, e)

      joined : (s : Bool) (x : X) (q rest : List X) → (q ++ cond s (x ∷ []) []) ++ rest ≡ q ++ cond s (x ∷ rest) rest
      joined true x q rest = append_assoc q (x ∷ []) rest
      joined false x q rest = ap (λ l. l ++ rest) (append-nil q)

      queue : (a b : ℕ) (t : Bool) → ((a == from) && is_alive al b) ≡ t → cond t (queue_of (inbox_at ib b) a ++ packets_to b vs) (queue_of (inbox_at ib b) a) ≡ cond t (queue_of (inbox_at ia b) a ++ packets_to b (v ∷ vs)) (queue_of (inbox_at ia b) a)
      queue a b true e = ap (λ l. l ++ packets_to b vs) (h.queues a b ∙ ap (λ t. cond t (queue_of (inbox_at ia b) a ++ packets_to b (v ∷ [])) (queue_of (inbox_at ia b) a)) e) ∙ joined (v.0 == b) v.1 (queue_of (inbox_at ia b) a) (packets_to b vs)
      queue a b false e = h.queues a b ∙ ap (λ t. cond t (queue_of (inbox_at ia b) a ++ packets_to b (v ∷ [])) (queue_of (inbox_at ia b) a)) e

  -- ---- the room that is used

  pub no_room_used : (al : List Bool) (from : ℕ) (ib : List (InboxView X)) → UseRoom al from [] ib ib
  no_room_used al from ib a b = go ((a == from) && is_alive al b)
    where
      go : (t : Bool) → room_at ib b a ≡ cond t (room_at ib b a - 0) (room_at ib b a)
      go true = omega arith
      go false = refl

  pub room_used_again : (al : List Bool) (from : ℕ) (v : ℕ × X) (vs : List (ℕ × X)) (ia ib ic : List (InboxView X)) → UseRoom al from (v ∷ []) ia ib → UseRoom al from vs ib ic → UseRoom al from (v ∷ vs) ia ic
  room_used_again al from v vs ia ib ic h k a b = k a b ∙ go ((a == from) && is_alive al b) _ _ _ _ _ (h a b) (packets_first b v vs)
    where
      go : (t : Bool) (x y p q r : ℕ) → y ≡ cond t (x - p) x → r ≡ p + q → cond t (y - q) y ≡ cond t (x - r) x
      go true x y p q r e f = omega arith
      go false x y p q r e f = e

  -- room for the others, after the first
  pub room_left : (al : List Bool) (from : ℕ) (v : ℕ × X) (vs : List (ℕ × X)) (ia ib : List (InboxView X)) → UseRoom al from (v ∷ []) ia ib → HaveRoom from (v ∷ vs) ia → HaveRoom from vs ib
  room_left al from v vs ia ib used h b = go ((from == from) && is_alive al b) _ _ _ _ _ (used from b) (h b) (packets_first b v vs)
    where
      go : (t : Bool) (x y p q r : ℕ) → y ≡ cond t (x - p) x → r ≤ x → r ≡ p + q → q ≤ y
      go true x y p q r e f g = omega arith
      go false x y p q r e f g = omega arith
