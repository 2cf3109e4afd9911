-- Lists of commands, and what is sent to one node.
use Rattle.std.proofs.Common.{◌≡◌, ◌≤◌, ◌<◌, ◌+◌, inl, inr, ℕ, suc, zero, Bool, ◌==◌, List, [], ◌∷◌, ◌++◌, map, take, refl, sym, ap, subst, ◌∙◌, eqb-true, eq-eqb, arith, zero-le}
use Rattle.std.proofs.lemmas.Bool.{cond-true, cond-false, cases_Bool, eqb-false}
use Rattle.overlay_setup.specs.NodeSets.{In, IsStrictlyIncreasing}
use Rattle.stat_plan.specs.Machine.Overlays.{to}
use Rattle.control_cast.specs.Machine.{Packet, Cmd, Down, numbers_after}
use Rattle.control_cast.specs.CastInvariant.{cmds, IsJoined}
use Rattle.stat_plan.proofs.Overlays.{ne_false}

-- ---- numbers in order

pub numbers_more : (k r t : ℕ) → k + r ≡ t → numbers_after k r ++ suc t ∷ [] ≡ numbers_after k (suc r)
numbers_more k zero t e = let s : k ≡ t = (omega arith) in ap (λ x. suc x ∷ []) (sym s)
numbers_more k (suc r) t e = ap (λ l. suc k ∷ l) (numbers_more (suc k) r t (omega arith))

map_more : (xs : List ℕ) (y : ℕ) → map Cmd (xs ++ y ∷ []) ≡ map Cmd xs ++ Cmd y ∷ []
map_more [] y = refl
map_more (x ∷ xs) y = ap (λ l. Cmd x ∷ l) (map_more xs y)

pub cmds_more : (k r t : ℕ) → k + r ≡ t → cmds k r ++ Cmd (suc t) ∷ [] ≡ cmds k (suc r)
cmds_more k r t e = sym (map_more (numbers_after k r) (suc t)) ∙ ap (map Cmd) (numbers_more k r t e)

-- the first packets of some commands are commands
pub cmds_take : (j k r : ℕ) → (s : ℕ) × ((s ≤ r) × (take j (cmds k r) ≡ cmds k s))
cmds_take zero k r = (0, (zero-le, refl))
cmds_take (suc j) k zero = (0, (zero-le, refl))
cmds_take (suc j) k (suc r) = let t = cmds_take j (suc k) r in (suc t.0, ((let le = t.1.0 in omega arith), ap (λ l. Cmd (suc k) ∷ l) t.1.1))

-- a first command of some is the next one
pub cmds_first : (i : ℕ) (qs : List Packet) (k r : ℕ) → (Cmd i ∷ qs) ≡ cmds k r → (s : ℕ) × ((r ≡ suc s) × (i ≡ suc k) × (qs ≡ cmds (suc k) s))
cmds_first i qs k zero e = absurd (cc)
cmds_first i qs k (suc r) e = (r, (refl, (cc), (cc)))

pub cmds_first_down : (i : ℕ) (qs : List Packet) (k r : ℕ) → (Cmd i ∷ qs) ≡ cmds k r ++ Down ∷ [] → (s : ℕ) × ((r ≡ suc s) × (i ≡ suc k) × (qs ≡ cmds (suc k) s ++ Down ∷ []))
cmds_first_down i qs k zero e = absurd (cc)
cmds_first_down i qs k (suc r) e = (r, (refl, (cc), (cc)))

-- ---- what is sent to one node

pub to_children_none : (c : ℕ) (q : Packet) (xs : List ℕ) → (In c xs → ⊥) → to c (map (λ x. (x, q)) xs) ≡ []
to_children_none c q [] h = refl
to_children_none c q (x ∷ xs) h = cond-false (x == c) _ _ (ne_false x c (λ e. h (inl (sym e)))) ∙ to_children_none c q xs (λ i. h (inr i))

pub to_child : (c : ℕ) (q : Packet) (xs : List ℕ) → IsStrictlyIncreasing xs → In c xs → to c (map (λ x. (x, q)) xs) ≡ q ∷ []
to_child c q [] h i = absurd i
to_child c q (x ∷ xs) h i = elim (cases_Bool (x == c)) [
  | inl t ↦
      let e : x ≡ c = eqb-true x c t in
      cond-true (x == c) _ _ t ∙ ap (λ l. q ∷ l) (to_children_none c q xs (λ j. let lt : x < c = h.0 c j in omega arith))
  | inr t ↦
      cond-false (x == c) _ _ t ∙ to_child c q xs h.1 (elim i [ inl e ↦ absurd (eqb-false x c t (sym e)) | inr j ↦ j ])
]

pub to_same : (m : ℕ) (is : List ℕ) → to m (map (λ i. (m, Cmd i)) is) ≡ map Cmd is
to_same m [] = refl
to_same m (i ∷ is) = cond-true (m == m) _ _ (eq-eqb m m refl) ∙ ap (λ l. Cmd i ∷ l) (to_same m is)

pub to_other : (c m : ℕ) (is : List ℕ) → (c ≡ m → ⊥) → to c (map (λ i. (m, Cmd i)) is) ≡ []
to_other c m [] ne = refl
to_other c m (i ∷ is) ne = cond-false (m == c) _ _ (ne_false m c (λ e. ne (sym e))) ∙ to_other c m is ne

-- a packet that is sent to children, or to one node
pub in_children : (c : ℕ) (q r : Packet) (xs : List ℕ) → In {X = ℕ × Packet} (c, r) (map (λ x. (x, q)) xs) → In c xs × (r ≡ q)
in_children c q r [] i = absurd i
in_children c q r (x ∷ xs) (inl e) = (inl (ap (λ y. y.0) e), ap (λ y. y.1) e)
in_children c q r (x ∷ xs) (inr i) = let t = in_children c q r xs i in (inr t.0, t.1)

pub in_numbers : (c m : ℕ) (r : Packet) (is : List ℕ) → In {X = ℕ × Packet} (c, r) (map (λ i. (m, Cmd i)) is) → (c ≡ m) × ((i : ℕ) × (r ≡ Cmd i))
in_numbers c m r [] i = absurd i
in_numbers c m r (x ∷ xs) (inl e) = (ap (λ y. y.0) e, (x, ap (λ y. y.1) e))
in_numbers c m r (x ∷ xs) (inr i) = in_numbers c m r xs i

-- ---- joined, by other names for the same

pub joined_by : (alive : Bool) (c below above : ℕ) (children : List ℕ) (up down : List Packet) (below' above' : ℕ) (children' : List ℕ) (up' down' : List Packet) → below' ≡ below → above' ≡ above → children' ≡ children → up' ≡ up → down' ≡ down → IsJoined alive c below above children up down → IsJoined alive c below' above' children' up' down'
joined_by alive c below above children up down below' above' children' up' down' eb ea ec eu ed h =
    subst (λ x. IsJoined alive c x above' children' up' down') (sym eb)
    (subst (λ x. IsJoined alive c below x children' up' down') (sym ea)
    (subst (λ x. IsJoined alive c below above x up' down') (sym ec)
    (subst (λ x. IsJoined alive c below above children x down') (sym eu)
    (subst (λ x. IsJoined alive c below above children up x) (sym ed) h))))
