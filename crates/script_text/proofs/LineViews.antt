-- What a line without an error says, and what becomes of the script.
use Rattle.std.proofs.Common.{◌≡◌, ◌∙◌, ◌↔◌, ◌⊎◌, inl, inr, ℕ, Bool, true, false, cond, ◌||◌, ◌==◌, nat_eq, nat_lt, nat_le, List, [], ◌∷◌, length, Option, None, Some, Result, Ok, Err, refl, sym, ap, subst, codes}
use Rattle.std.specs.List.{list_any}
use Rattle.std.specs.Result.{IfOk}
use Rattle.std.specs.Str.{bytes_eq}
use Rattle.std.proofs.lemmas.Bool.{true≢false, eqb-true}
use Rattle.std.proofs.lemmas.Slice.Eq.{bytes_eq-Decides}
use Rattle.text_lines.specs.Lines.{words, says_nothing, is_comment, are_none, number_in}
use Rattle.text_lines.proofs.Errors.{then_inv, ok_inj, some_inv}
use Rattle.text_lines.specs.declared.text_error.TextError.{TextError}
use Rattle.text_lines.specs.declared.text_error.TextError.TheVariants.{Bad, Over}
use Rattle.text_lines.specs.declared.text_error.Reason.TheVariants.{BadNumber, BadDirective, SecondStream, SecondLoss, LosesFront, NotADaemon}
use Rattle.text_lines.specs.declared.text_error.Quantity.TheVariants.{Streams, Waves, Faults}
use Rattle.overlay_setup.specs.Daemons.{daemon_named, IsDaemonNamed}
use Rattle.overlay_setup.specs.Scripts.{IsDaemon, Stream, stream, Scripted, scripted}
use Rattle.overlay_setup.specs.Names.{name_of, number_of}
use Rattle.overlay_setup.specs.NodeSets.{In, with_number}
use Rattle.overlay_setup.specs.Topologies.{Nodes, IsTopology}
use Rattle.overlay_setup.specs.Trees.{is_daemon, root_of}
use Rattle.overlay_setup.specs.declared.script.Fault.{Fault}
use Rattle.overlay_setup.specs.declared.script.Mode.{Mode}
use Rattle.overlay_setup.specs.declared.script.Mode.TheVariants as mode
use Rattle.overlay_setup.specs.declared.script.TheConstants.{STREAM_LIMIT, WAVE_LIMIT, SAMPLE_LIMIT, TICK_LIMIT, FAULT_LIMIT}
use Rattle.overlay_setup.proofs.DaemonNames.{found_by_name}
use Rattle.script_text.specs.declared.lose_line.TheConstants.{COUNT_LIMIT}
use Rattle.script_text.specs.Grammar.{IsModeOf, IsNamedDaemon, IsStreamOf, IsLossOf, AreDaemonNames}
use Rattle.script_text.specs.Losses.{as_lost, lost_node, fault_of, with_fault}
use Rattle.script_text.specs.Numbers.{in_range, number_from}
use Rattle.script_text.specs.Streams.{new_number, stream_number, mode_of, daemon_of, with_named, all_daemons, daemons_of, stream_of, with_stream}
use Rattle.script_text.specs.Whole.{with_stream_line, with_lose_line, with_words, with_line}
use Rattle.script_text.specs.Words.{ModeWords, WaitForAll, TimeOut, DontWait, StreamWords, LoseWords, stream_words, lose_words}
use Rattle.script_text.proofs.InvariantLemmas.{AreDaemons, daemons_holds, IsNewStream, stream_holds, IsNewFault, fault_holds}
use Rattle.script_text.proofs.NodeLists.{in_number, passed, is_passed}

if_inv : {A : Type 0} (b : Bool) (e : TextError) (r : Result A TextError) (x : A) → cond b (Err e) r ≡ Ok x → r ≡ Ok x
if_inv true e r x h = cc
if_inv false e r x h = h

-- numbers that are read
number_read : (line least most : ℕ) (more : TextError) (o : Option ℕ) (n : ℕ) → in_range line least most more o ≡ Ok n → o ≡ Some n
number_read line least most more None n h = cc
number_read line least most more (Some m) n h = ap Some (ok_inj m n (if_inv (nat_lt most m) more (Ok m) n (if_inv (nat_lt m least) (Bad line BadNumber) _ n h)))

number_inv : (line least most : ℕ) (more : TextError) (word : List ℕ) (n : ℕ) → number_from line least most more word ≡ Ok n → number_in word ≡ Some n
unfolding number_from
number_inv line least most more word n h = number_read line least most more (number_in word) n h

stream_number_inv : (streams : List Stream) (line : ℕ) (word : List ℕ) (n : ℕ) → stream_number streams line word ≡ Ok n → number_in word ≡ Some n
unfolding stream_number new_number
stream_number_inv streams line word n h =
    let a = then_inv (number_from line 0 7 (Over line Streams STREAM_LIMIT) word) (new_number streams line) n h in
    number_inv line 0 7 (Over line Streams STREAM_LIMIT) word a.0 a.1 ∙ ap Some (ok_inj a.0 n (if_inv (list_any (λ x. x.number == a.0) streams) (Bad line SecondStream) (Ok a.0) n a.2))

mode_inv : (line : ℕ) (w : ModeWords) (m : Mode) → mode_of line w ≡ Ok m → IsModeOf w m
unfolding mode_of
mode_inv line WaitForAll m h = sym (ok_inj mode.WaitForAll m h)
mode_inv line (TimeOut ticks) m h =
    let a = then_inv (number_from line 1 TICK_LIMIT (Bad line BadNumber) ticks) (λ (t : ℕ). Ok (mode.TimeOut t)) m h in
    (a.0, number_inv line 1 TICK_LIMIT (Bad line BadNumber) ticks a.0 a.1, sym (ok_inj (mode.TimeOut a.0) m a.2))
mode_inv line DontWait m h = sym (ok_inj mode.DontWait m h)

-- an ascending list with a number more
is_number : (x : ℕ) (ys : List ℕ) → In x (with_number x ys)
is_number x [] = inl refl
is_number x (y ∷ ys) = by (nat_lt x y) (nat_eq x y) refl (is_number x ys)
  where
    by : (a b : Bool) → nat_eq x y ≡ b → In x (with_number x ys) → In x (cond a (x ∷ y ∷ ys) (cond b (y ∷ ys) (y ∷ with_number x ys)))
    by true b e h = inl refl
    by false true e h = inl (eqb-true x y e)
    by false false e h = inr h

number_stays : (x n : ℕ) (ys : List ℕ) → In n ys → In n (with_number x ys)
number_stays x n [] h = absurd h
number_stays x n (y ∷ ys) h = by (nat_lt x y) (nat_eq x y) h (number_stays x n ys)
  where
    by : (a b : Bool) → In n (y ∷ ys) → (In n ys → In n (with_number x ys)) → In n (cond a (x ∷ y ∷ ys) (cond b (y ∷ ys) (y ∷ with_number x ys)))
    by true b h more = inr h
    by false true h more = h
    by false false (inl e) more = inl e
    by false false (inr h) more = inr (more h)

same_word : (one other : List ℕ) → bytes_eq one other ≡ true → one ≡ other
same_word one other e = (bytes_eq-Decides one other).0 e

module _ (t : Nodes) (is : IsTopology t) (line : ℕ) where
  daemon_inv : (name : List ℕ) (n : ℕ) → daemon_of t line name ≡ Ok n → IsDaemonNamed t name n
  unfolding daemon_of
  daemon_inv name n h = (found_by_name t is name n).0 (some_inv (Bad line NotADaemon) (daemon_named name t) n h)

  daemon_back : (name : List ℕ) (m n : ℕ) → daemon_of t line name ≡ Ok m → IsDaemonNamed t name n → m ≡ n
  unfolding daemon_of
  daemon_back name m n h at = let found = sym (some_inv (Bad line NotADaemon) (daemon_named name t) m h) ∙ (found_by_name t is name n).1 at in cc

  -- names, one after another
  named_to : (names : List (List ℕ)) (ds es : List ℕ) → with_named t line ds names ≡ Ok es → (n : ℕ) → In n es → In n ds ⊎ (IsDaemon t n × In (name_of t.names n) names)
  unfolding with_named
  named_to [] ds es h n there = inl (subst (In n) (sym (ok_inj ds es h)) there)
  named_to (name ∷ names) ds es h n there =
      let a = then_inv (daemon_of t line name) (λ m. with_named t line (with_number m ds) names) es h in
      by a.0 (daemon_inv name a.0 a.1) (named_to names (with_number a.0 ds) es a.2 n there)
    where
      first : (m : ℕ) → IsDaemonNamed t name m → (n ≡ m) ⊎ In n ds → In n ds ⊎ (IsDaemon t n × In (name_of t.names n) (name ∷ names))
      first m at (inl e) = inr (subst (IsDaemon t) (sym e) (at.0, at.2), inl (ap (name_of t.names) e ∙ at.1))
      first m at (inr old) = inl old

      by : (m : ℕ) → IsDaemonNamed t name m → In n (with_number m ds) ⊎ (IsDaemon t n × In (name_of t.names n) names) → In n ds ⊎ (IsDaemon t n × In (name_of t.names n) (name ∷ names))
      by m at (inl h) = first m at (in_number m ds n h)
      by m at (inr h) = inr (h.0, inr h.1)

  named_from : (names : List (List ℕ)) (ds es : List ℕ) → with_named t line ds names ≡ Ok es → (n : ℕ) → In n ds ⊎ (IsDaemon t n × In (name_of t.names n) names) → In n es
  unfolding with_named
  named_from [] ds es h n (inl old) = subst (In n) (ok_inj ds es h) old
  named_from [] ds es h n (inr new) = absurd new.1
  named_from (name ∷ names) ds es h n there =
      let a = then_inv (daemon_of t line name) (λ m. with_named t line (with_number m ds) names) es h in
      named_from names (with_number a.0 ds) es a.2 n (by a.0 a.1 there)
    where
      new : (m : ℕ) → daemon_of t line name ≡ Ok m → IsDaemon t n → In (name_of t.names n) (name ∷ names) → In n (with_number m ds) ⊎ (IsDaemon t n × In (name_of t.names n) names)
      new m e daemon (inl first) = inl (subst (λ k. In k (with_number m ds)) (daemon_back name m n e (daemon.0, first, daemon.1)) (is_number m ds))
      new m e daemon (inr later) = inr (daemon, later)

      by : (m : ℕ) → daemon_of t line name ≡ Ok m → In n ds ⊎ (IsDaemon t n × In (name_of t.names n) (name ∷ names)) → In n (with_number m ds) ⊎ (IsDaemon t n × In (name_of t.names n) names)
      by m e (inl old) = inl (number_stays m n ds old)
      by m e (inr h) = new m e h.0 h.1

  -- the daemons that stand after `on`
  all_named : (n : ℕ) → In n (all_daemons t) ↔ IsDaemon t n
  unfolding all_daemons
  all_named n = (λ h. passed (is_daemon t.parents) (length t.parents) n h, λ d. is_passed (is_daemon t.parents) (length t.parents) n d.0 d.1)

  pub daemons_inv : (names : List (List ℕ)) (ds : List ℕ) → daemons_of t line names ≡ Ok ds → (n : ℕ) → In n ds ↔ IsNamedDaemon t names n
  unfolding daemons_of
  daemons_inv [] ds h n = cc
  daemons_inv (name ∷ names) ds h n = by (bytes_eq name (codes "all")) refl h
    where
      by : (b : Bool) → bytes_eq name (codes "all") ≡ b → cond b (Ok (all_daemons t)) (with_named t line [] (name ∷ names)) ≡ Ok ds → In n ds ↔ IsNamedDaemon t (name ∷ names) n
      by true e h =
          let same = ok_inj (all_daemons t) ds h in
          (λ there. ((all_named n).0 (subst (In n) (sym same) there), inl e), λ d. subst (In n) same ((all_named n).1 d.0))
      by false e h = (
        λ there. elim (named_to (name ∷ names) [] ds h n there) [ (inl old) ↦ absurd old | (inr new) ↦ (new.0, inr new.1) ],
        λ d. named_from (name ∷ names) [] ds h n (elim d.1 [ (inl all) ↦ absurd (true≢false (sym all ∙ e)) | (inr one) ↦ inr (d.0, one) ]),
      )

  -- each name that was looked up is that of a daemon
  named_each : (names : List (List ℕ)) (ds es : List ℕ) → with_named t line ds names ≡ Ok es → (name : List ℕ) → In name names → (n : ℕ) × IsDaemonNamed t name n
  unfolding with_named
  named_each [] ds es h name there = absurd there
  named_each (first ∷ names) ds es h name there =
      let a = then_inv (daemon_of t line first) (λ m. with_named t line (with_number m ds) names) es h in
      by a.0 (daemon_inv first a.0 a.1) there (named_each names (with_number a.0 ds) es a.2 name)
    where
      by : (m : ℕ) → IsDaemonNamed t first m → In name (first ∷ names) → (In name names → (n : ℕ) × IsDaemonNamed t name n) → (n : ℕ) × IsDaemonNamed t name n
      by m at (inl e) further = (m, subst (λ k. IsDaemonNamed t k m) (sym e) at)
      by m at (inr h) further = further h

  names_inv : (names : List (List ℕ)) (ds : List ℕ) → daemons_of t line names ≡ Ok ds → AreDaemonNames t names
  unfolding daemons_of
  names_inv [] ds h = cc
  names_inv (name ∷ names) ds h = by (bytes_eq name (codes "all")) refl h
    where
      by : (b : Bool) → bytes_eq name (codes "all") ≡ b → cond b (Ok (all_daemons t)) (with_named t line [] (name ∷ names)) ≡ Ok ds → AreDaemonNames t (name ∷ names)
      by true e h = inl e
      by false e h = inr (named_each (name ∷ names) [] ds h)

-- a `stream` line defines a stream
pub record AddsStream (t : Nodes) (c : Scripted) (line : List ℕ) (d : Scripted) : Type 0 where
  pub new : Stream
  pub comment : is_comment line ≡ false
  pub is : IsStreamOf t line new
  pub names : AreDaemonNames t is.words_of.names
  pub first : IsNewStream t c.streams new
  pub after : scripted (with_stream new c.streams) c.faults ≡ d

-- a `lose` line loses a node
pub record AddsLoss (t : Nodes) (c : Scripted) (line : List ℕ) (d : Scripted) : Type 0 where
  pub new : Fault
  pub comment : is_comment line ≡ false
  pub is : IsLossOf t line new
  pub first : IsNewFault t c.faults new
  pub after : scripted c.streams (with_fault new c.faults) ≡ d

-- what becomes of a script with a line more
abbrev pub Changes : Nodes → Scripted → List ℕ → Scripted → Type 0
Changes t c line d = ((says_nothing line ≡ true) × (c ≡ d)) ⊎ (AddsStream t c line d ⊎ AddsLoss t c line d)

module _ (t : Nodes) (is : IsTopology t) (c d : Scripted) (number : ℕ) (line : List ℕ) where
  stream_is : (rest : List (List ℕ)) (w : StreamWords) (x : Stream) → words line ≡ codes "stream" ∷ rest → stream_words rest ≡ Some w → stream_of t c.streams number w ≡ Ok x → (is : IsStreamOf t line x) × AreDaemonNames t is.words_of.names
  unfolding stream_of
  stream_is rest w x first form h =
      let a = then_inv (stream_number c.streams number w.number) _ x h in
      let b = then_inv (mode_of number w.mode) _ x a.2 in
      let e = then_inv (number_from number 1 WAVE_LIMIT (Over number Waves WAVE_LIMIT) w.waves) _ x b.2 in
      let f = then_inv (number_from number 1 SAMPLE_LIMIT (Bad number BadNumber) w.samples) _ x e.2 in
      let g = then_inv (daemons_of t number w.names) _ x f.2 in
      let known = subst (λ r. IfOk r (AreDaemons t)) g.1 (daemons_holds t is number w.names) in
      let it : IsStreamOf t line (stream a.0 b.0 e.0 f.0 w.grain g.0) = record {
        rest = rest;
        is = first;
        words_of = w;
        form = form;
        number = stream_number_inv c.streams number w.number a.0 a.1;
        mode = mode_inv number w.mode b.0 b.1;
        waves = number_inv number 1 WAVE_LIMIT (Over number Waves WAVE_LIMIT) w.waves e.0 e.1;
        samples = number_inv number 1 SAMPLE_LIMIT (Bad number BadNumber) w.samples f.0 f.1;
        grain = refl;
        daemons = daemons_inv t is number w.names g.0 g.1;
        daemons_increase = known.increasing;
      } in
      subst (λ x. (is : IsStreamOf t line x) × AreDaemonNames t is.words_of.names) (ok_inj (stream a.0 b.0 e.0 f.0 w.grain g.0) x g.2) (it, names_inv t is number w.names g.0 g.1)

  lost_read : (name : List ℕ) (o : Option ℕ) (n : ℕ) → as_lost t c.faults number o ≡ Ok n → o ≡ Some n
  lost_read name None n h = cc
  lost_read name (Some m) n h = ap Some (ok_inj m n (if_inv (list_any (λ f. f.node == m) c.faults) (Bad number SecondLoss) (Ok m) n (if_inv (m == root_of t.parents) (Bad number LosesFront) _ n h)))

  lost_inv : (name : List ℕ) (n : ℕ) → lost_node t c.faults number name ≡ Ok n → number_of name t.names ≡ Some n
  unfolding lost_node
  lost_inv name n h = lost_read name (number_of name t.names) n (if_inv (nat_le FAULT_LIMIT (length c.faults)) (Over number Faults FAULT_LIMIT) _ n h)

  loss_is : (rest : List (List ℕ)) (w : LoseWords) (f : Fault) → words line ≡ codes "lose" ∷ rest → lose_words rest ≡ Some w → fault_of t c.faults number w ≡ Ok f → IsLossOf t line f
  unfolding fault_of
  loss_is rest w f first form h =
      let a = then_inv (lost_node t c.faults number w.name) _ f h in
      let b = then_inv (number_from number 0 COUNT_LIMIT (Bad number BadNumber) w.after) _ f a.2 in
      let e = then_inv (number_from number 0 COUNT_LIMIT (Bad number BadNumber) w.keep) _ f b.2 in
      subst (IsLossOf t line) (ok_inj (record { node = a.0; after = b.0; keep = e.0 }) f e.2) (record {
        rest = rest;
        is = first;
        words_of = w;
        form = form;
        node = lost_inv w.name a.0 a.1;
        after = number_inv number 0 COUNT_LIMIT (Bad number BadNumber) w.after b.0 b.1;
        keep = number_inv number 0 COUNT_LIMIT (Bad number BadNumber) w.keep e.0 e.1;
      })

  module _ (comment : is_comment line ≡ false) (rest : List (List ℕ)) where
    by_stream : words line ≡ codes "stream" ∷ rest → (o : Option StreamWords) → stream_words rest ≡ o → with_stream_line t c number o ≡ Ok d → AddsStream t c line d
    by_stream first None form h = cc
    by_stream first (Some w) form h =
        let a = then_inv (stream_of t c.streams number w) (λ x. Ok (scripted (with_stream x c.streams) c.faults)) d h in
        let s = stream_is rest w a.0 first form a.1 in
        record { new = a.0; comment = comment; is = s.0; names = s.1; first = subst (λ r. IfOk r (IsNewStream t c.streams)) a.1 (stream_holds t is c.streams number w); after = ok_inj (scripted (with_stream a.0 c.streams) c.faults) d a.2 }

    by_lose : words line ≡ codes "lose" ∷ rest → (o : Option LoseWords) → lose_words rest ≡ o → with_lose_line t c number o ≡ Ok d → AddsLoss t c line d
    by_lose first None form h = cc
    by_lose first (Some w) form h =
        let a = then_inv (fault_of t c.faults number w) (λ f. Ok (scripted c.streams (with_fault f c.faults))) d h in
        record { new = a.0; comment = comment; is = loss_is rest w a.0 first form a.1; first = subst (λ r. IfOk r (IsNewFault t c.faults)) a.1 (fault_holds t is c.faults number w); after = ok_inj (scripted c.streams (with_fault a.0 c.faults)) d a.2 }

  by_words : is_comment line ≡ false → (ws : List (List ℕ)) → words line ≡ ws → with_words t c number ws ≡ Ok d → Changes t c line d
  unfolding with_words
  by_words comment [] at h = cc
  by_words comment (word ∷ rest) at h = by (bytes_eq word (codes "stream")) refl (bytes_eq word (codes "lose")) refl h
    where
      by : (s : Bool) → bytes_eq word (codes "stream") ≡ s → (l : Bool) → bytes_eq word (codes "lose") ≡ l → cond s (with_stream_line t c number (stream_words rest)) (cond l (with_lose_line t c number (lose_words rest)) (Err (Bad number BadDirective))) ≡ Ok d → Changes t c line d
      by true e l f h = inr (inl (by_stream comment rest (at ∙ ap (λ w. w ∷ rest) (same_word word (codes "stream") e)) (stream_words rest) refl h))
      by false e true f h = inr (inr (by_lose comment rest (at ∙ ap (λ w. w ∷ rest) (same_word word (codes "lose") f)) (lose_words rest) refl h))
      by false e false f h = cc

  or_false : (a b : Bool) → (a || b) ≡ false → a ≡ false
  or_false true b e = cc
  or_false false b e = refl

  -- a line without an error changes the script as it says
  pub changes : with_line t c number line ≡ Ok d → Changes t c line d
  unfolding with_line
  changes h = by (says_nothing line) refl h
    where
      by : (b : Bool) → says_nothing line ≡ b → elim b as (λ _. Result Scripted TextError) [ true ↦ Ok c | false ↦ with_words t c number (words line) ] ≡ Ok d → Changes t c line d
      by true e h = inl (e, ok_inj c d h)
      by false e h = by_words (or_false (is_comment line) (are_none (words line)) e) (words line) refl h
