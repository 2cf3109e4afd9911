-- Spellings of fields one after another.
use Rattle.std.proofs.Common.{◌≡◌, ℕ, ◌^◌, ◌<◌, ◌≤◌, Bool, true, false, nat_eq, nat_le, nat_lt, not, List, [], ◌∷◌, ◌++◌, length, take, drop, None, refl, sym, ap, subst, ◌∙◌, arith, append_assoc}
use Rattle.std.specs.Int.{Width, w8, w16, w32, w64, byte_len, to_be_bytes, from_be_bytes}
use Rattle.std.proofs.lemmas.List.{take_at, drop_at, take-append-drop, append-nil}
use Rattle.std.proofs.lemmas.Nat.{from_be_bytes-to_be_bytes_2, from_be_bytes-to_be_bytes_4, from_be_bytes-to_be_bytes_8}
use Rattle.packet_frame.specs.declared.error.FrameReason.{FrameReason}
use Rattle.packet_frame.specs.Fields.{Form, whole, field, ◌>>=◌, Spells, Rules, broken, number}

-- one spelling after another
pub spells-bind : {A B : Type 0} (f : Form A) (g : A → Form B) (a b : List ℕ) (x : A) (y : B) → Spells f a x → Spells (g x) b y → Spells (f >>= g) (a ++ b) y
spells-bind (whole c) g a b x y s t =
    let same : a ++ b ≡ b = ap (λ l. l ++ b) s.0 in
    subst (λ l. Spells (g c) l y) (sym same) (subst (λ c. Spells (g c) b y) (sym s.1) t)
spells-bind (field width rule next) g a b x y s t =
    let first = take width a in
    let split : a ++ b ≡ first ++ (drop width a ++ b) = ap (λ l. l ++ b) (sym (take-append-drop width a)) ∙ append_assoc first (drop width a) b in
    let front : take width (a ++ b) ≡ first = ap (take width) split ∙ take_at first (drop width a ++ b) width s.0 in
    let back : drop width (a ++ b) ≡ drop width a ++ b = ap (drop width) split ∙ drop_at first (drop width a ++ b) width s.0 in
    rw (front, back) (s.0, s.1, spells-bind (next first) g (drop width a) b x y s.2 t)

-- a spelling of the last fields
pub spells-end : {A B : Type 0} (f : Form A) (h : A → B) (a : List ℕ) (x : A) → Spells f a x → Spells (f >>= λ v. whole (h v)) a (h x)
spells-end f h a x s = subst (λ b. Spells (f >>= λ v. whole (h v)) b (h x)) (append-nil a) (spells-bind f (λ v. whole (h v)) a [] x (h x) s (refl, refl))

-- bytes stand for a number
pub record Stands (w : Width) (bytes : List ℕ) (n : ℕ) : Type 0 where
  pub len : length bytes ≡ byte_len w
  pub value : from_be_bytes w bytes ≡ n

pub one_byte : (n : ℕ) → Stands w8 (n ∷ []) n
one_byte n = record { len = refl; value = omega arith }

pub stands8 : (n : ℕ) → n < 256 → Stands w8 (to_be_bytes w8 n) n
stands8 n lt = record { len = refl; value = omega (arith, lt) }

pub stands16 : (n : ℕ) → n < 2 ^ 16 → Stands w16 (to_be_bytes w16 n) n
stands16 n lt = record { len = refl; value = from_be_bytes-to_be_bytes_2 n lt }

pub stands32 : (n : ℕ) → n < 2 ^ 32 → Stands w32 (to_be_bytes w32 n) n
stands32 n lt = record { len = refl; value = from_be_bytes-to_be_bytes_4 n lt }

pub stands64 : (n : ℕ) → n < 2 ^ 64 → Stands w64 (to_be_bytes w64 n) n
stands64 n lt = record { len = refl; value = from_be_bytes-to_be_bytes_8 n lt }

-- bytes of a number that obeys its rules
pub spells-number : (w : Width) (rules : ℕ → Rules) (bytes : List ℕ) (n : ℕ) → Stands w bytes n → broken (rules n) ≡ None → Spells (number w rules) bytes n
spells-number w rules bytes n stands obeys =
    let front : take (byte_len w) bytes ≡ bytes = ap (take (byte_len w)) (sym (append-nil bytes)) ∙ take_at bytes [] (byte_len w) stands.len in
    let back : drop (byte_len w) bytes ≡ [] = ap (drop (byte_len w)) (sym (append-nil bytes)) ∙ drop_at bytes [] (byte_len w) stands.len in
    (ap length front ∙ stands.len, ap (λ b. broken (rules (from_be_bytes w b))) front ∙ ap (λ m. broken (rules m)) stands.value ∙ obeys, (back, ap (from_be_bytes w) front ∙ stands.value))

-- and what follows it
pub spells-then : {B : Type 0} (w : Width) (rules : ℕ → Rules) (g : ℕ → Form B) (a b : List ℕ) (n : ℕ) (y : B) → Stands w a n → broken (rules n) ≡ None → Spells (g n) b y → Spells (number w rules >>= g) (a ++ b) y
spells-then w rules g a b n y stands obeys s = spells-bind (number w rules) g a b n y (spells-number w rules a n stands obeys) s

-- ---- rules that are obeyed

pub below_is : (n limit : ℕ) → n < limit → nat_lt n limit ≡ true
below_is n limit lt = grind (arith, lt)

pub at_most_is : (n limit : ℕ) → n ≤ limit → nat_le n limit ≡ true
at_most_is n limit le = grind (arith, le)

pub some_is : (n : ℕ) → 0 < n → not (nat_eq n 0) ≡ true
some_is n h = grind (arith, h)

pub obeyed : (b : Bool) (r : FrameReason) (rs : Rules) → b ≡ true → broken rs ≡ None → broken ((b, r) ∷ rs) ≡ None
obeyed true r rs h k = k
obeyed false r rs h k = absurd cc
