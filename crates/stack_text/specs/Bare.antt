-- A line of a printed stack without its address, by which the lines of two processes differ.
use Rattle.std.specs.Prelude.{ℕ, ◌&&◌, nat_eq, nat_lt, cond, List, ◌∷◌, ◌++◌, length, drop, Option, None, Some, codes, option_map, unwrap_or}
use Rattle.std.specs.Option.{option_and_then, option_or}
use Rattle.text_lines.specs.Lines.{after_blanks}
use Rattle.stack_text.specs.Texts.{behind, before_rest, hex_len, behind_hex, behind_digits}

-- a line, parted at its address
pub data BareView : Type 0 where
  -- a call: what stands before the digits of its address, which ends in `0x`, and what stands behind them
  BareCall : (prefix tail : List ℕ) → BareView
  -- where a call stands in its file: the digits
  BarePlace : (offset : List ℕ) → BareView
  -- a line that has no address
  Other : (line : List ℕ) → BareView

-- what is left of a call's line behind `#`, the call's number, blanks and `0x`
abbrev pub address_of : List ℕ → Option (List ℕ)
address_of line = option_and_then (λ rest. behind (codes "0x") (after_blanks rest))
    (option_and_then behind_digits (behind (codes "#") line))

-- a call's line: `#`, a number, blanks, an address, and a tail
abbrev pub bare_call : List ℕ → Option BareView
bare_call line = option_and_then (λ address. option_map (BareCall (before_rest line address)) (behind_hex address))
    (address_of line)

-- an offset, which is all that is left of a line
abbrev pub offset_alone : List ℕ → Option BareView
offset_alone digits =
    cond (nat_eq (hex_len digits) (length digits) && nat_lt 0 (length digits)) (Some (BarePlace digits)) None

-- a place's line: `    [`, a build id, `]@`, the address where the file lies, `+0x`, and the offset in the file
abbrev pub bare_place : List ℕ → Option BareView
bare_place line =
    option_and_then offset_alone (option_and_then (behind (codes "+0x")) (option_and_then behind_hex
    (option_and_then (λ rest. behind (codes "]@0x") (drop (hex_len rest) rest)) (behind (codes "    [") line))))

-- a line, parted at its address
unfoldable pub bare_of : List ℕ → BareView
bare_of line = unwrap_or (option_or (bare_call line) (bare_place line)) (Other line)

-- the line that says the same with the address 0; of a place only the offset counts, so it has no build id either
abbrev pub bare_text : BareView → List ℕ
bare_text (BareCall prefix tail) = prefix ++ 48 ∷ tail
bare_text (BarePlace offset) = codes "    []@0x0+0x" ++ offset
bare_text (Other line) = line

-- a line with 0 for its address
unfoldable pub bare : List ℕ → List ℕ
bare line = bare_text (bare_of line)
