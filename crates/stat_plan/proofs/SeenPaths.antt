-- Which paths the lines of a wave list a rank in, by the ranks that are seen in each.
use Rattle.std.proofs.Common.{◌≡◌, ℕ, ◌<◌, Bool, true, false, not, ◌&&◌, nat_eq, List, length, map, refl, sym, ap, subst, ◌∙◌, eqb-true}
use Rattle.std.specs.List.{list_any}
use Rattle.std.proofs.lemmas.Bool.{true≢false, and_parts, and_from, false_from_ne_true}
use Rattle.std.proofs.lemmas.List.{get_or-map, length-map}
use Rattle.rank_set.specs.Ranks.{Ranks, Has, has, has-none, is_empty, none, none_from_size, size}
use Rattle.rank_set.proofs.SomeMember.{first_member}
use Rattle.rank_set.proofs.Spanning.{any_member, member_from_any}
use Rattle.overlay_setup.specs.NodeSets.{In}
use Rattle.stat_plan.specs.OwnLines.{AreParted, AreRanksSeen, HasRankOn, line_sees, ranks_at, sees}
use Rattle.stat_plan.specs.PathOrder.{AreSeen, has_rank, share_rank}
use Rattle.overlay_setup.specs.Scripts.{is_in_wave}
use Rattle.stat_plan.specs.declared.samples.StackLine.{StackLine}
use Rattle.stat_plan.proofs.InLists.{any_from_in, in_from_any}
use Rattle.stat_plan.proofs.Sharing.{both_ways}
use Rattle.stat_plan.proofs.WaveRows.{united_seen}

-- a set with a rank has a member
member_of : (s : Ranks) → has_rank s ≡ true → (r : ℕ) × Has r s
member_of s some = first_member s (not_true (is_empty s) some)
  where
    not_true : (b : Bool) → not b ≡ true → b ≡ false
    not_true true e = absurd (true≢false (sym e))
    not_true false e = refl

-- and one with a member has a rank
has_member : (s : Ranks) (r : ℕ) → Has r s → has_rank s ≡ true
has_member s r there = ap not (false_from_ne_true (is_empty s) (λ empty. true≢false (sym there ∙ ap (λ t. has t r) (none_from_size s (eqb-true (size s) 0 empty)) ∙ has-none r)))

-- a rank that is seen in a path, and a line that lists it
listed_from : (lines : List StackLine) (k w : ℕ) (own : Ranks) (r i : ℕ) → Has r own → sees k w lines r i ≡ true → list_any (λ line. nat_eq line.path i && (is_in_wave k w line.time && share_rank line.ranks own)) lines ≡ true
listed_from lines k w own r i mine there =
    let found = in_from_any (λ (line : StackLine). line_sees k w line r i) lines there in
    let line = found.0 in
    let parts = and_parts (has line.ranks r) (is_in_wave k w line.time && nat_eq line.path i) found.1.1 in
    let at = and_parts (is_in_wave k w line.time) (nat_eq line.path i) parts.1 in
    any_from_in (λ (l : StackLine). nat_eq l.path i && (is_in_wave k w l.time && share_rank l.ranks own)) line lines found.1.0
    (and_from (nat_eq line.path i) (is_in_wave k w line.time && share_rank line.ranks own) at.1
    (and_from (is_in_wave k w line.time) (share_rank line.ranks own) at.0 (any_member (has own) line.ranks r parts.0 mine)))

listed_to : (lines : List StackLine) (k w : ℕ) (own : Ranks) (i : ℕ) → list_any (λ line. nat_eq line.path i && (is_in_wave k w line.time && share_rank line.ranks own)) lines ≡ true → (r : ℕ) × (Has r own × (sees k w lines r i ≡ true))
listed_to lines k w own i e =
    let found = in_from_any (λ (line : StackLine). nat_eq line.path i && (is_in_wave k w line.time && share_rank line.ranks own)) lines e in
    let line = found.0 in
    let parts = and_parts (nat_eq line.path i) (is_in_wave k w line.time && share_rank line.ranks own) found.1.1 in
    let more = and_parts (is_in_wave k w line.time) (share_rank line.ranks own) parts.1 in
    let rank = member_from_any (has own) line.ranks more.1 in (
      rank.rank,
      (
        rank.passes,
        any_from_in (λ (l : StackLine). line_sees k w l rank.rank i) line lines found.1.0
            (and_from (has line.ranks rank.rank) (is_in_wave k w line.time && nat_eq line.path i) rank.is_member (and_from (is_in_wave k w line.time) (nat_eq line.path i) more.0 parts.0)),
      ),
    )

-- the paths of the sets that have a rank are those in which lines list one
pub seen_by_sets : (placed : List Ranks) (lines spread : List StackLine) (rows : List (List StackLine)) (k w : ℕ) (daemons : List ℕ) (own : Ranks) (sets : List Ranks) → AreParted placed lines spread rows → ((d : ℕ) → In d daemons → d < length placed) → ((r : ℕ) → Has r own → HasRankOn placed daemons r)
    → AreRanksSeen k w own rows daemons spread sets → AreSeen lines k w own (map has_rank sets)
seen_by_sets placed lines spread rows k w daemons own sets are nodes on seen = record {
  each = λ i lt.
      let below : i < length sets = subst (λ n. i < n) (length-map sets has_rank) lt in
      get_or-map has_rank sets i none false below
      ∙ both_ways (has_rank (ranks_at sets i)) (list_any (λ line. nat_eq line.path i && (is_in_wave k w line.time && share_rank line.ranks own)) lines)
      (λ some.
      let r = member_of (ranks_at sets i) some in
      let both = and_parts (has own r.0) (sees k w lines r.0 i) (sym (united_seen placed lines spread rows are k w daemons own nodes on r.0 i) ∙ sym (seen.each r.0 i below) ∙ r.1) in
      listed_from lines k w own r.0 i both.0 both.1)
      (λ listed.
      let r = listed_to lines k w own i listed in
      has_member (ranks_at sets i) r.0 (seen.each r.0 i below ∙ united_seen placed lines spread rows are k w daemons own nodes on r.0 i ∙ and_from (has own r.0) (sees k w lines r.0 i) r.1.0 r.1.1));
}
