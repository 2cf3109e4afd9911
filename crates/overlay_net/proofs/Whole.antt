-- A net some of whose nodes are out, as a whole.
use Rattle.std.proofs.Common.{◌≡◌, ◌≢◌, ◌∙◌, ◌<◌, ◌≤◌, ℕ, zero, suc, List, [], ◌∷◌, map, length, slice_get, slice_set, Option, Some, None, refl, sym, ap, arith}
use Rattle.std.specs.Prelude.{slice_index_or}
use Rattle.std.proofs.lemmas.Option.{none-some}
use Rattle.node_inbox.specs.Sends.{inbox_at, no_inbox}
use Rattle.overlay_net.specs.Inboxes.{FrameInbox}
use Rattle.overlay_net.specs.Places.{PlaceView, nodes_in, out_at, outs_in, whole_inbox, whole_inboxes, with_frame}

-- ---- places

-- the node at a place
pub node_at_place : (ps : List PlaceView) (n : ℕ) (x : PlaceView) → slice_get ps n ≡ Some x → slice_get (nodes_in ps) n ≡ Some x.node
node_at_place [] n x at = absurd (none-some x at)
node_at_place (y ∷ ys) zero x at = ap (λ (o : Option PlaceView). elim o [ None ↦ None | Some z ↦ Some z.node ]) at
node_at_place (y ∷ ys) (suc n) x at = node_at_place ys n x at

-- the event at a place
pub out_at_place : (ps : List PlaceView) (n : ℕ) (x : PlaceView) → slice_get ps n ≡ Some x → out_at (outs_in ps) n ≡ x.out
out_at_place [] n x at = absurd (none-some x at)
out_at_place (y ∷ ys) zero x at = ap (λ (o : Option PlaceView). elim o [ None ↦ None | Some z ↦ z.out ]) at
out_at_place (y ∷ ys) (suc n) x at = out_at_place ys n x at

-- past the places nobody is out
pub none_past : (ps : List PlaceView) (n : ℕ) → slice_get ps n ≡ None → out_at (outs_in ps) n ≡ None
none_past [] n at = none_of_nothing n
  where
    none_of_nothing : (k : ℕ) → out_at [] k ≡ None
    none_of_nothing zero = refl
    none_of_nothing (suc k) = refl
none_past (y ∷ ys) zero at = absurd (none-some y (sym at))
none_past (y ∷ ys) (suc n) at = none_past ys n at

-- ---- whole inboxes

pub length_whole : (ps : List PlaceView) (boxes : List FrameInbox) → length ps ≡ length boxes → length (whole_inboxes ps boxes) ≡ length boxes
length_whole [] boxes len = refl
length_whole (x ∷ xs) [] len = refl
length_whole (x ∷ xs) (box ∷ boxes) len = ap suc (length_whole xs boxes (omega (arith, len)))

-- the whole inbox of a node
pub whole_full : (ps : List PlaceView) (boxes : List FrameInbox) (n : ℕ) (x : PlaceView) → slice_get ps n ≡ Some x → n < length boxes → slice_index_or (whole_inboxes ps boxes) n no_inbox ≡ whole_inbox x (slice_index_or boxes n no_inbox)
whole_full [] boxes n x at lt = absurd (none-some x at)
whole_full (y ∷ ys) [] n x at lt = absurd (omega (arith, lt))
whole_full (y ∷ ys) (box ∷ boxes) zero x at lt = let e : Some y ≡ Some x = at in let s : y ≡ x = cc in ap (λ z. whole_inbox z box) s
whole_full (y ∷ ys) (box ∷ boxes) (suc n) x at lt = whole_full ys boxes n x at (omega (arith, lt))

pub whole_at : (ps : List PlaceView) (boxes : List FrameInbox) (n : ℕ) (x : PlaceView) → slice_get ps n ≡ Some x → n < length boxes → inbox_at (whole_inboxes ps boxes) n ≡ with_frame x.out x.frame (inbox_at boxes n)
whole_at ps boxes n x at lt = ap (λ (b : FrameInbox). b.waiting) (whole_full ps boxes n x at lt)

-- the inbox of a node that is at home is whole
pub home_inbox : (ps : List PlaceView) (boxes : List FrameInbox) (n : ℕ) (x : PlaceView) → slice_get ps n ≡ Some x → x.out ≡ None → n < length boxes → inbox_at (whole_inboxes ps boxes) n ≡ inbox_at boxes n
home_inbox ps boxes n x at home lt = whole_at ps boxes n x at lt ∙ ap (λ o. with_frame o x.frame (inbox_at boxes n)) home

-- ---- any inbox, also past the last

-- the frame that a node took along
abbrev pub frame_at : List PlaceView → ℕ → Option (List ℕ)
frame_at ps n = slice_index_or (map (λ x. x.frame) ps) n None

pub whole_view : (ps : List PlaceView) (boxes : List FrameInbox) (b : ℕ) → length ps ≡ length boxes → inbox_at (whole_inboxes ps boxes) b ≡ with_frame (out_at (outs_in ps) b) (frame_at ps b) (inbox_at boxes b)
whole_view [] boxes zero len = refl
whole_view [] boxes (suc b) len = refl
whole_view (x ∷ xs) [] b len = absurd (omega (arith, len))
whole_view (x ∷ xs) (box ∷ boxes) zero len = refl
whole_view (x ∷ xs) (box ∷ boxes) (suc b) len = whole_view xs boxes b (omega (arith, len))

-- what a set place changes
pub out_here : (ps : List PlaceView) (n : ℕ) (x : PlaceView) → n < length ps → out_at (outs_in (slice_set ps n x)) n ≡ x.out
out_here [] n x lt = absurd (omega (arith, lt))
out_here (y ∷ ys) zero x lt = refl
out_here (y ∷ ys) (suc n) x lt = out_here ys n x (omega (arith, lt))

pub out_else : (ps : List PlaceView) (n b : ℕ) (x : PlaceView) → b ≢ n → out_at (outs_in (slice_set ps n x)) b ≡ out_at (outs_in ps) b
out_else [] n b x ne = refl
out_else (y ∷ ys) zero zero x ne = absurd (ne refl)
out_else (y ∷ ys) zero (suc b) x ne = refl
out_else (y ∷ ys) (suc n) zero x ne = refl
out_else (y ∷ ys) (suc n) (suc b) x ne = out_else ys n b x (λ e. ne (ap suc e))

pub whole_here : (ps : List PlaceView) (boxes : List FrameInbox) (n : ℕ) (x : PlaceView) → n < length ps → n < length boxes → inbox_at (whole_inboxes (slice_set ps n x) boxes) n ≡ with_frame x.out x.frame (inbox_at boxes n)
whole_here [] boxes n x lt k = absurd (omega (arith, lt))
whole_here (y ∷ ys) [] n x lt k = absurd (omega (arith, k))
whole_here (y ∷ ys) (box ∷ boxes) zero x lt k = refl
whole_here (y ∷ ys) (box ∷ boxes) (suc n) x lt k = whole_here ys boxes n x (omega (arith, lt)) (omega (arith, k))

pub whole_else : (ps : List PlaceView) (boxes : List FrameInbox) (n b : ℕ) (x : PlaceView) → b ≢ n → inbox_at (whole_inboxes (slice_set ps n x) boxes) b ≡ inbox_at (whole_inboxes ps boxes) b
whole_else [] boxes n b x ne = refl
whole_else (y ∷ ys) [] zero b x ne = refl
whole_else (y ∷ ys) [] (suc n) b x ne = refl
whole_else (y ∷ ys) (box ∷ boxes) zero zero x ne = absurd (ne refl)
whole_else (y ∷ ys) (box ∷ boxes) zero (suc b) x ne = refl
whole_else (y ∷ ys) (box ∷ boxes) (suc n) zero x ne = refl
whole_else (y ∷ ys) (box ∷ boxes) (suc n) (suc b) x ne = whole_else ys boxes n b x (λ e. ne (ap suc e))

pub out_past : (ps : List PlaceView) (n : ℕ) → length ps ≤ n → out_at (outs_in ps) n ≡ None
out_past [] zero le = refl
out_past [] (suc n) le = refl
out_past (x ∷ xs) zero le = absurd (omega arith)
out_past (x ∷ xs) (suc n) le = out_past xs n (omega (arith, le))
