-- What follows in a row.
use Rattle.std.proofs.Common.{◌≡◌, ℕ, suc, ◌-◌, Bool, not, nat_eq, ◌∷◌, ap, ◌∙◌, arith}
use Rattle.rank_set.specs.Ranks.{Ranks, is_empty}
use Rattle.call_path.specs.Path.{Path}
use Rattle.prefix_tree.specs.Tree.{Tree}
use Rattle.packet_frame.specs.declared.packet.Packet.{Packet}
use Rattle.packet_frame.specs.declared.packet.Packet.TheVariants.{Up}
use Rattle.packet_frame.specs.Fields.{Form, whole, ◌>>=◌, list_form}
use Rattle.packet_frame.specs.Frame.{row_of, path_at, depth_form, name_length_form, name_form, ends_form, row_form, next_row, after_row, set_form, word_limit, ends_needed, ends_rule, ranks_at}
use Rattle.packet_frame.specs.FrameRows.{grown, rows_onto}
use Rattle.packet_frame.specs.Scanning.{rows_left, after_ends}
use Rattle.packet_frame.proofs.Binding.{bind_assoc, bind_same, first_and_rest}

-- what follows the depth of a row
abbrev pub depth_then : (version stream wave : ℕ) → Ranks → Tree → Path → (count left : ℕ) → ℕ → Form (Packet Tree)
depth_then version stream wave cover t path count left depth = name_length_form >>= λ len. name_form path depth len >>= λ name. ends_form version cover depth (nat_eq left 0) >>= after_ends version stream wave cover t (path_at path depth name) count

module _ (version stream wave : ℕ) (cover : Ranks) (t : Tree) where
  -- a row follows
  pub row_follows : (path : Path) (ended : Bool) (count left : ℕ) → count ≡ suc left → rows_left version stream wave cover t path ended count ≡ depth_form path ended >>= depth_then version stream wave cover t path count left
  unfolding row_form
  row_follows path ended count left e =
      ap (rows_left version stream wave cover t path ended) e
      ∙ first_and_rest (next_row version cover) after_row (path, ended) left (λ rest. whole (Up stream wave (rows_onto t rest)))
      ∙ bind_assoc (depth_form path ended) _ _
      ∙ bind_same (depth_form path ended) _ _ (λ depth.
      bind_assoc name_length_form _ _
      ∙ bind_same name_length_form _ _ (λ len.
      bind_assoc (name_form path depth len) _ _
      ∙ bind_same (name_form path depth len) _ _ (λ name.
      bind_assoc (ends_form version cover depth (nat_eq left 0)) (λ ends. whole (row_of (path_at path depth name) ends)) _
      ∙ bind_same (ends_form version cover depth (nat_eq left 0)) _ _ (λ ends. one_more (path_at path depth name) ends))))
    where
      one_more : (p : Path) (ends : Ranks) → list_form (next_row version cover) after_row (p, not (is_empty ends)) left >>= (λ rest. whole (Up stream wave (rows_onto t (row_of p ends ∷ rest)))) ≡ after_ends version stream wave cover t p count ends
      one_more p ends = ap (rows_left version stream wave cover (grown t ends p) p (not (is_empty ends))) (let less : left ≡ count - 1 = omega (arith, e) in less)

  -- the ends of a row follow as a set
  pub ends_follow : (depth count : ℕ) (last : Bool) (path : Path) → ends_form version cover depth last >>= after_ends version stream wave cover t path count ≡ set_form (word_limit version) (ends_needed depth last) (ends_rule version cover) >>= λ numbers. after_ends version stream wave cover t path count (ranks_at version cover numbers)
  unfolding ends_form
  ends_follow depth count last path = bind_assoc (set_form (word_limit version) (ends_needed depth last) (ends_rule version cover)) (λ numbers. whole (ranks_at version cover numbers)) (after_ends version stream wave cover t path count)
