-- What the promises refuse: each row is a case of which one of them does not hold.
use Rattle.std.specs.Prelude.{◌≡◌, refl, Bool, true, false, List, [], ◌∷◌, ◌++◌}
use Rattle.std.proofs.Common.{ap, sym, ◌∙◌, inl, inr}
use Rattle.std.proofs.lemmas.Bool.{true≢false}
use Rattle.rank_set.specs.Ranks.{has, with_rank, set_of, those, union}
use Rattle.stat_plan.specs.Plans.{daemons, mode, ranks, stream_of, stream_ranks}
use Rattle.overlay_core.specs.declared.release.Kind.{Kind}
use Rattle.overlay_core.specs.declared.release.Kind.TheVariants.{Partial as PartialRelease, Final as FinalRelease}
use Rattle.overlay_core.specs.Nodes.{Release}
use Rattle.overlay_core.specs.Releases.{ReleaseIsSound}
use Rattle.overlay_core.specs.Rows.{final, lost_daemon, partial}
use Rattle.overlay_core.specs.Whole.{EndsFinally, HasOneRelease}

-- ---- lists of one release

abbrev is_some : List Release → Bool
is_some [] = false
is_some (r ∷ rs) = true

-- the first of some releases, or this one
abbrev head_or : Release → List Release → Release
head_or x [] = x
head_or x (r ∷ rs) = r

-- whether there is a release behind the first
abbrev has_second : List Release → Bool
has_second [] = false
has_second (r ∷ []) = false
has_second (r ∷ q ∷ rs) = true

-- the last of one release is that release
pub the_last : (x f : Release) (b : List Release) → x ∷ [] ≡ b ++ f ∷ [] → x ≡ f
the_last x f [] e = ap (head_or x) e
the_last x f (r ∷ []) e = absurd (true≢false (sym (ap has_second e)))
the_last x f (r ∷ q ∷ rs) e = absurd (true≢false (sym (ap has_second e)))

-- no releases have no last one
pub no_last : (f : Release) (b : List Release) → [] ≡ b ++ f ∷ [] → ⊥
no_last f [] e = true≢false (sym (ap is_some e))
no_last f (r ∷ b) e = true≢false (sym (ap is_some e))

abbrev pub is_final : Kind → Bool
is_final PartialRelease = false
is_final FinalRelease = true

-- ---- how a wave ends

-- a wave without a release has not ended
none_is_no_end : EndsFinally lost_daemon [] 0 [] → ⊥
none_is_no_end h = no_last h.final h.before h.all

-- nor has one with a partial release alone
partial_is_no_end : EndsFinally lost_daemon [] 0 (partial (set_of (0 ∷ 1 ∷ 2 ∷ 3 ∷ [])) [] ∷ []) → ⊥
partial_is_no_end h =
    true≢false (sym (ap is_final (ap (λ r. r.kind) (the_last _ h.final h.before h.all) ∙ h.kind)))

-- a final release that misses ranks of a daemon which the journal doesn't lose
missed_without_a_loss : EndsFinally lost_daemon [] 0 (final (set_of (0 ∷ 1 ∷ [])) (2 ∷ []) ∷ []) → ⊥
unfolding has with_rank daemons stream_of ranks
missed_without_a_loss h =
    (h.misses 2 2 (inr (inl refl)) refl
    (λ e. true≢false (sym e ∙ ap (λ r. has r.covered 2) (sym (the_last _ h.final h.before h.all))))).0

-- ---- where no daemon is lost

-- two releases of a stream that has one
two_are_not_one : (r : Release) → HasOneRelease lost_daemon 0 (r ∷ r ∷ []) → ⊥
two_are_not_one r h = true≢false (ap has_second h.all)

-- one that misses ranks
one_that_misses : HasOneRelease lost_daemon 0 (final (set_of (0 ∷ 1 ∷ [])) (2 ∷ []) ∷ []) → ⊥
unfolding has with_rank union those daemons stream_of stream_ranks ranks
one_that_misses h =
    true≢false (sym (ap (λ c. has c 2) (ap (λ r. r.covered) (ap (head_or h.only) h.all) ∙ h.covers)))

-- a partial release of a stream that waits for all
partial_though_it_waits : ReleaseIsSound lost_daemon (partial (set_of (0 ∷ 1 ∷ [])) []) → ⊥
unfolding mode stream_of
partial_though_it_waits h = h.waits refl refl
