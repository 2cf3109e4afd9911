-- What the parts of a line say.
use Rattle.std.proofs.Common.{◌≡◌, ◌≢◌, ℕ, ◌<◌, ◌≤◌, true, List, ◌∷◌, ◌++◌, None, Some, refl, sym, ap, ◌∙◌, subst, arith}
use Rattle.std.specs.Prelude.{codes}
use Rattle.std.specs.Fmt.{decimal}
use Rattle.std.proofs.lemmas.Fmt.{decimal_injective}
use Rattle.overlay_setup.specs.NodeSets.{In}
use Rattle.overlay_setup.specs.Names.{name_of, number_of}
use Rattle.overlay_setup.specs.Scripts.{Stream}
use Rattle.overlay_event.specs.declared.event.Event.{Event}
use Rattle.overlay_event.specs.declared.event.Event.TheVariants.{Sample, Recv, Tick, Lose}
use Rattle.stat_plan.specs.Invariants.{IsPlan}
use Rattle.stat_plan.specs.Plans.{Plan, nodes, stream_of, waves_of}
use Rattle.journal_text.specs.Events.{IsEventOf}
use Rattle.journal_text.specs.Reading.{IsEventRead, IsWaveRead}
use Rattle.journal_text.specs.Text.{line_of, wave_text}
use Rattle.journal_text.specs.Words.{has_no_space}
use Rattle.journal_text.proofs.Lists.{differ}
use Rattle.journal_text.proofs.Names.{name_has_no_space, name_known, name_unknown}
use Rattle.journal_text.proofs.Parted.{parted, has_space}
use Rattle.journal_text.proofs.Waves.{wave_known, is_wave, wave_small, wave_parted, no_wave_text}

-- ---- the wave that a text says

module _ (p : Plan) (plan : IsPlan p) where
  pub uncut_is_no_wave : (text : List ℕ) → has_no_space text ≡ true → IsWaveRead p text None
  uncut_is_no_wave text none = λ s w there e. no_wave_text text s w none e

  module _ (text word rest : List ℕ) (none : has_no_space word ≡ true) (cut : text ≡ word ++ 32 ∷ rest) where
    -- the two words of a wave's text
    words : (s w : ℕ) → In (s, w) (waves_of p.streams) → text ≡ wave_text s w → (word ≡ decimal s) × (rest ≡ decimal w)
    words s w there e = wave_parted word rest s w (wave_small p plan s w there).0 none (sym cut ∙ e)

    pub no_stream_number : ((n : ℕ) → n < 256 → word ≢ decimal n) → IsWaveRead p text None
    no_stream_number never = λ s w there e. never s (wave_small p plan s w there).0 (words s w there e).0

    pub no_wave_number : ((n : ℕ) → n < 256 → rest ≢ decimal n) → IsWaveRead p text None
    no_wave_number never = λ s w there e. never w (wave_small p plan s w there).1 (words s w there e).1

    module _ (s w : ℕ) (low : s < 256) (small : w < 256) (stream : word ≡ decimal s) (wave : rest ≡ decimal w) where
      -- a wave of this text has these numbers
      numbers : (t v : ℕ) → In (t, v) (waves_of p.streams) → text ≡ wave_text t v → (s ≡ t) × (w ≡ v)
      numbers t v there e =
          let parts = words t v there e in
          let below = wave_small p plan t v there in
          let first = below.0 in
          let second = below.1 in
          (decimal_injective s t (omega arith) (omega arith) (sym stream ∙ parts.0), decimal_injective w v (omega arith) (omega arith) (sym wave ∙ parts.1))

      pub no_stream : stream_of p s ≡ None → IsWaveRead p text None
      no_stream unknown = λ t v there e.
          let same = (numbers t v there e).0 in
          let known = (wave_known p plan t v there).1.0 in
          let found = ap (stream_of p) same in
          absurd (cc)

      pub no_wave : (x : Stream) → stream_of p s ≡ Some x → x.waves ≤ w → IsWaveRead p text None
      no_wave x found late = λ t v there e.
          let same = numbers t v there e in
          let known = wave_known p plan t v there in
          let both : Some x ≡ Some known.0 = sym found ∙ ap (stream_of p) same.0 ∙ known.1.0 in
          let one : x ≡ known.0 = cc in
          let before : v < x.waves = subst (λ (y : Stream). v < y.waves) (sym one) known.1.1 in
          let wave_is = same.1 in
          omega (arith, late, before, wave_is)

      pub wave_read : (x : Stream) → stream_of p s ≡ Some x → w < x.waves → IsWaveRead p text (Some (s, w))
      wave_read x found before = (is_wave p plan s w x found before, cut ∙ (λ i. stream i ++ 32 ∷ wave i))

-- ---- the event that a text behind the first word says

module _ (p : Plan) (text : List ℕ) where
  pub only_sample : ((n s w : ℕ) → n < nodes p → In (s, w) (waves_of p.streams) → text ≢ name_of p.names n ++ 32 ∷ wave_text s w) → IsEventRead p (codes "sample " ++ text) None
  only_sample never = by
    where
      by : (e : Event) → IsEventOf p e → codes "sample " ++ text ≢ line_of p e
      by (Sample n s w) is e = never n s w is.0 is.1 (cc)
      by (Recv n m) is e = differ e refl
      by (Tick n) is e = differ e refl
      by (Lose n) is e = differ e refl

  pub only_recv : ((n m : ℕ) → n < nodes p → m < nodes p → text ≢ name_of p.names n ++ 32 ∷ name_of p.names m) → IsEventRead p (codes "recv " ++ text) None
  only_recv never = by
    where
      by : (e : Event) → IsEventOf p e → codes "recv " ++ text ≢ line_of p e
      by (Sample n s w) is e = differ e refl
      by (Recv n m) is e = never n m is.0 is.1 (cc)
      by (Tick n) is e = differ e refl
      by (Lose n) is e = differ e refl

  pub only_tick : ((n : ℕ) → n < nodes p → text ≢ name_of p.names n) → IsEventRead p (codes "tick " ++ text) None
  only_tick never = by
    where
      by : (e : Event) → IsEventOf p e → codes "tick " ++ text ≢ line_of p e
      by (Sample n s w) is e = differ e refl
      by (Recv n m) is e = differ e refl
      by (Tick n) is e = never n is (cc)
      by (Lose n) is e = differ e refl

  pub only_lose : ((n : ℕ) → n < nodes p → text ≢ name_of p.names n) → IsEventRead p (codes "lose " ++ text) None
  only_lose never = by
    where
      by : (e : Event) → IsEventOf p e → codes "lose " ++ text ≢ line_of p e
      by (Sample n s w) is e = differ e refl
      by (Recv n m) is e = differ e refl
      by (Tick n) is e = differ e refl
      by (Lose n) is e = never n is (cc)

module _ (p : Plan) (plan : IsPlan p) where
  -- a text without a space
  pub uncut_sample : (text : List ℕ) → has_no_space text ≡ true → IsEventRead p (codes "sample " ++ text) None
  uncut_sample text none = only_sample p text (λ n s w below there e. has_space (name_of p.names n) (wave_text s w) (ap has_no_space (sym e) ∙ none))

  pub uncut_recv : (text : List ℕ) → has_no_space text ≡ true → IsEventRead p (codes "recv " ++ text) None
  uncut_recv text none = only_recv p text (λ n m below within e. has_space (name_of p.names n) (name_of p.names m) (ap has_no_space (sym e) ∙ none))

  -- a name alone
  pub unknown_tick : (name : List ℕ) → None ≡ number_of name p.names → IsEventRead p (codes "tick " ++ name) None
  unknown_tick name none = only_tick p name (λ n below e. name_unknown p plan name n none below e)

  pub known_tick : (name : List ℕ) (n : ℕ) → Some n ≡ number_of name p.names → IsEventRead p (codes "tick " ++ name) (Some (Tick n))
  known_tick name n found = let known = name_known p plan name n found in (known.0, ap (λ t. codes "tick " ++ t) (sym known.1))

  pub unknown_lose : (name : List ℕ) → None ≡ number_of name p.names → IsEventRead p (codes "lose " ++ name) None
  unknown_lose name none = only_lose p name (λ n below e. name_unknown p plan name n none below e)

  pub known_lose : (name : List ℕ) (n : ℕ) → Some n ≡ number_of name p.names → IsEventRead p (codes "lose " ++ name) (Some (Lose n))
  known_lose name n found = let known = name_known p plan name n found in (known.0, ap (λ t. codes "lose " ++ t) (sym known.1))

  module _ (text word rest : List ℕ) (none : has_no_space word ≡ true) (cut : text ≡ word ++ 32 ∷ rest) where
    -- the name and what follows it
    behind_name : (n : ℕ) (other : List ℕ) → n < nodes p → text ≡ name_of p.names n ++ 32 ∷ other → (word ≡ name_of p.names n) × (rest ≡ other)
    behind_name n other below e = parted word (name_of p.names n) rest other none (name_has_no_space p plan n below) (sym cut ∙ e)

    pub sample_unknown : None ≡ number_of word p.names → IsEventRead p (codes "sample " ++ text) None
    sample_unknown unknown = only_sample p text (λ n s w below there e. name_unknown p plan word n unknown below (behind_name n (wave_text s w) below e).0)

    pub sample_no_wave : IsWaveRead p rest None → IsEventRead p (codes "sample " ++ text) None
    sample_no_wave never = only_sample p text (λ n s w below there e. never s w there (behind_name n (wave_text s w) below e).1)

    pub sample_read : (n s w : ℕ) → Some n ≡ number_of word p.names → IsWaveRead p rest (Some (s, w)) → IsEventRead p (codes "sample " ++ text) (Some (Sample n s w))
    sample_read n s w found wave =
        let known = name_known p plan word n found in
        ((known.0, wave.0), ap (λ t. codes "sample " ++ t) (cut ∙ (λ i. sym known.1 i ++ 32 ∷ wave.1 i)))

    pub recv_unknown : None ≡ number_of word p.names → IsEventRead p (codes "recv " ++ text) None
    recv_unknown unknown = only_recv p text (λ n m below within e. name_unknown p plan word n unknown below (behind_name n (name_of p.names m) below e).0)

    pub from_unknown : None ≡ number_of rest p.names → IsEventRead p (codes "recv " ++ text) None
    from_unknown unknown = only_recv p text (λ n m below within e. name_unknown p plan rest m unknown within (behind_name n (name_of p.names m) below e).1)

    pub recv_read : (n m : ℕ) → Some n ≡ number_of word p.names → Some m ≡ number_of rest p.names → IsEventRead p (codes "recv " ++ text) (Some (Recv n m))
    recv_read n m found from_found =
        let known = name_known p plan word n found in
        let from_known = name_known p plan rest m from_found in
        ((known.0, from_known.0), ap (λ t. codes "recv " ++ t) (cut ∙ (λ i. sym known.1 i ++ 32 ∷ sym from_known.1 i)))

-- ---- a whole line

-- a line that begins with none of the four words
pub other_line : (p : Plan) (line : List ℕ) → ((t : List ℕ) → line ≢ codes "sample " ++ t) → ((t : List ℕ) → line ≢ codes "recv " ++ t) → ((t : List ℕ) → line ≢ codes "tick " ++ t) → ((t : List ℕ) → line ≢ codes "lose " ++ t) → IsEventRead p line None
other_line p line no_sample no_recv no_tick no_lose = by
  where
    by : (e : Event) → IsEventOf p e → line ≢ line_of p e
    by (Sample n s w) is e = no_sample (name_of p.names n ++ 32 ∷ wave_text s w) e
    by (Recv n m) is e = no_recv (name_of p.names n ++ 32 ∷ name_of p.names m) e
    by (Tick n) is e = no_tick (name_of p.names n) e
    by (Lose n) is e = no_lose (name_of p.names n) e
