-- A stream line, one way out at a time.
use Rattle.std.proofs.Common.{◌≡◌, ℕ, true, false, nat_eq, List, [], ◌∷◌, Ok, Err, refl, ap, ◌∙◌, codes}
use Rattle.std.specs.List.{list_any}
use Rattle.std.specs.Str.{bytes_eq}
use Rattle.overlay_setup.specs.NodeSets.{with_number}
use Rattle.overlay_setup.specs.Scripts.{Stream, stream}
use Rattle.overlay_setup.specs.Topologies.{Nodes}
use Rattle.overlay_setup.specs.declared.script.Mode.{Mode}
use Rattle.overlay_setup.specs.declared.script.Mode.TheVariants as mode
use Rattle.text_lines.specs.declared.text_error.TextError.{TextError}
use Rattle.text_lines.specs.declared.text_error.TextError.TheVariants.{Bad, Over}
use Rattle.text_lines.specs.declared.text_error.Reason.TheVariants.{BadDirective, BadNumber, SecondStream}
use Rattle.text_lines.specs.declared.text_error.Quantity.TheVariants.{Streams, Waves}
use Rattle.script_text.specs.Words.{WaitForAll, TimeOut, DontWait, StreamWords}
use Rattle.text_lines.specs.Parsing.{and_then}
use Rattle.script_text.specs.Numbers.{number_from}
use Rattle.script_text.specs.Streams.{new_number, stream_number, mode_of, daemon_of, with_named, all_daemons, daemons_of, stream_of}

module _ (streams : List Stream) (line : ℕ) (word : List ℕ) where
  pub number_bad : (e : TextError) → number_from line 0 7 (Over line Streams 8) word ≡ Err e → stream_number streams line word ≡ Err e
  unfolding stream_number
  number_bad e is = ap (λ r. and_then r (new_number streams line)) is

  pub number_second : (n : ℕ) → number_from line 0 7 (Over line Streams 8) word ≡ Ok n → list_any (λ x. nat_eq x.number n) streams ≡ true → stream_number streams line word ≡ Err (Bad line SecondStream)
  unfolding stream_number new_number
  number_second n is second = ap (λ r. and_then r (new_number streams line)) is ∙ rw second refl

  pub number_new : (n : ℕ) → number_from line 0 7 (Over line Streams 8) word ≡ Ok n → list_any (λ x. nat_eq x.number n) streams ≡ false → stream_number streams line word ≡ Ok n
  unfolding stream_number new_number
  number_new n is first = ap (λ r. and_then r (new_number streams line)) is ∙ rw first refl

module _ (line : ℕ) where
  pub waits : mode_of line WaitForAll ≡ Ok mode.WaitForAll
  unfolding mode_of
  waits = refl

  pub passes : mode_of line DontWait ≡ Ok mode.DontWait
  unfolding mode_of
  passes = refl

  pub times_bad : (ticks : List ℕ) (e : TextError) → number_from line 1 1000 (Bad line BadNumber) ticks ≡ Err e → mode_of line (TimeOut ticks) ≡ Err e
  unfolding mode_of
  times_bad ticks e is = ap (λ r. and_then r (λ (t : ℕ). Ok (mode.TimeOut t))) is

  pub times : (ticks : List ℕ) (t : ℕ) → number_from line 1 1000 (Bad line BadNumber) ticks ≡ Ok t → mode_of line (TimeOut ticks) ≡ Ok (mode.TimeOut t)
  unfolding mode_of
  times ticks t is = ap (λ r. and_then r (λ (t : ℕ). Ok (mode.TimeOut t))) is

-- names, one at a time
module _ (t : Nodes) (line : ℕ) (daemons : List ℕ) where
  pub named_none : (ws : List (List ℕ)) → ws ≡ [] → with_named t line daemons ws ≡ Ok daemons
  unfolding with_named
  named_none ws is = rw is refl

  pub named_bad : (ws : List (List ℕ)) (name : List ℕ) (names : List (List ℕ)) (e : TextError) → ws ≡ name ∷ names → daemon_of t line name ≡ Err e → with_named t line daemons ws ≡ Err e
  unfolding with_named
  named_bad ws name names e is bad = rw is (rw (bad, with_named) refl)

  pub named_next : (ws : List (List ℕ)) (name : List ℕ) (names : List (List ℕ)) (n : ℕ) → ws ≡ name ∷ names → daemon_of t line name ≡ Ok n → with_named t line daemons ws ≡ with_named t line (with_number n daemons) names
  unfolding with_named
  named_next ws name names n is good = rw is (rw (good, with_named) refl)

-- what stands after `on`
module _ (t : Nodes) (line : ℕ) (ws : List (List ℕ)) where
  pub on_none : ws ≡ [] → daemons_of t line ws ≡ Err (Bad line BadDirective)
  unfolding daemons_of
  on_none is = rw is refl

  pub on_all : (name : List ℕ) (names : List (List ℕ)) → ws ≡ name ∷ names → bytes_eq name (codes "all") ≡ true → daemons_of t line ws ≡ Ok (all_daemons t)
  unfolding daemons_of
  on_all name names is all = rw is (rw (all, daemons_of) refl)

  pub on_names : (name : List ℕ) (names : List (List ℕ)) → ws ≡ name ∷ names → bytes_eq name (codes "all") ≡ false → daemons_of t line ws ≡ with_named t line [] ws
  unfolding daemons_of
  on_names name names is other = rw is (rw (other, daemons_of) refl)

-- a stream, part by part
module _ (t : Nodes) (streams : List Stream) (line : ℕ) (w : StreamWords) where
  pub stream_bad_number : (e : TextError) → stream_number streams line w.number ≡ Err e → stream_of t streams line w ≡ Err e
  unfolding stream_of
  stream_bad_number e h = rw (h, stream_of) refl

  module _ (number : ℕ) (a : stream_number streams line w.number ≡ Ok number) where
    pub stream_bad_mode : (e : TextError) → mode_of line w.mode ≡ Err e → stream_of t streams line w ≡ Err e
    unfolding stream_of
    stream_bad_mode e h = rw (a, h, stream_of) refl

    module _ (mode : Mode) (b : mode_of line w.mode ≡ Ok mode) where
      pub stream_bad_waves : (e : TextError) → number_from line 1 16 (Over line Waves 16) w.waves ≡ Err e → stream_of t streams line w ≡ Err e
      unfolding stream_of
      stream_bad_waves e h = rw (a, b, h, stream_of) refl

      module _ (waves : ℕ) (c : number_from line 1 16 (Over line Waves 16) w.waves ≡ Ok waves) where
        pub stream_bad_samples : (e : TextError) → number_from line 1 64 (Bad line BadNumber) w.samples ≡ Err e → stream_of t streams line w ≡ Err e
        unfolding stream_of
        stream_bad_samples e h = rw (a, b, c, h, stream_of) refl

        module _ (samples : ℕ) (d : number_from line 1 64 (Bad line BadNumber) w.samples ≡ Ok samples) where
          pub stream_bad_daemons : (e : TextError) → daemons_of t line w.names ≡ Err e → stream_of t streams line w ≡ Err e
          unfolding stream_of
          stream_bad_daemons e h = rw (a, b, c, d, h, stream_of) refl

          pub stream_good : (daemons : List ℕ) → daemons_of t line w.names ≡ Ok daemons → stream_of t streams line w ≡ Ok (stream number mode waves samples w.grain daemons)
          unfolding stream_of
          stream_good daemons h = rw (a, b, c, d, h, stream_of) refl
