-- Packed lines of samples, and the lines that they stand for.
use Rattle.std.specs.Prelude.{◌<◌, ℕ, ⊤, List, map, length, slice_index_or, refl}
use Rattle.std.specs.Coded.{Coded, code_by, coded×, coded_list, coded_ℕ}
use Rattle.std.specs.List.{AllByRecursion}
use Rattle.rank_set.specs.Ranks.{Ranks, coded_ranks, none, union}
use Rattle.rank_set.specs.Runs.{ranks_between}
use Rattle.rank_set.specs.declared.TheConstants.{RANK_LIMIT}
use Rattle.stat_plan.specs.declared.samples.StackLine.{StackLine}
use Rattle.stat_plan.specs.declared.line_list.EntryRanks.{EntryRanks}
use Rattle.stat_plan.specs.declared.line_list.EntryRanks.TheVariants as entry
use Rattle.stat_plan.specs.declared.line_list.LineEntry.{LineEntry}
use Rattle.stat_plan.specs.declared.line_list.LineRanks.{LineRanks}
use Rattle.stat_plan.specs.declared.line_list.LineRanks.TheVariants.{One, Several}
use Rattle.stat_plan.specs.declared.line_list.ListedLine.{ListedLine}

-- a line of these parts
abbrev pub stack_line : ℕ → ℕ → Ranks → StackLine
stack_line time path ranks = record { time = time; path = path; ranks = ranks }

-- the set of one rank
abbrev pub one_rank : ℕ → Ranks
one_rank rank = union none (ranks_between rank rank)

-- the ranks of a line of a list
abbrev pub ranks_view : LineRanks → Ranks
ranks_view (One rank) = one_rank rank
ranks_view (Several ranks) = ranks.now

-- a line of a list
abbrev pub line_view : ListedLine → StackLine
line_view line = stack_line line.time line.path (ranks_view line.ranks)

-- one rank is below the limit
abbrev pub AreBelowLimit : LineRanks → Type 0
AreBelowLimit (One rank) = rank < RANK_LIMIT
AreBelowLimit (Several ranks) = ⊤

-- ---- how a list is held. No clause of a public call cites what follows.

-- the ranks of an entry
abbrev pub entry_ranks : List Ranks → EntryRanks → Ranks
entry_ranks sets (entry.One rank) = one_rank rank
entry_ranks sets (entry.Several number) = slice_index_or sets number none

-- the line that an entry stands for
abbrev pub entry_line : List Ranks → LineEntry → StackLine
entry_line sets entry = stack_line entry.time entry.path (entry_ranks sets entry.ranks)

-- the lines that entries stand for
abbrev pub entry_lines : List Ranks → List LineEntry → List StackLine
entry_lines sets entries = map (entry_line sets) entries

-- a rank is below the limit, and a number is that of a set
abbrev pub IsEntryOf : List Ranks → EntryRanks → Type 0
IsEntryOf sets (entry.One rank) = rank < RANK_LIMIT
IsEntryOf sets (entry.Several number) = number < length sets

abbrev pub AreEntriesOf : List Ranks → List LineEntry → Type 0
AreEntriesOf sets entries = AllByRecursion (λ entry. IsEntryOf sets entry.ranks) entries

-- lines are stored as values
abbrev pub coded_lines : Coded (List StackLine)
coded_lines =
    coded_list (code_by (ℕ × (ℕ × Ranks)) (coded× coded_ℕ (coded× coded_ℕ coded_ranks)) (λ l. (l.time, (l.path, l.ranks))) (λ c. record { time = c.0; path = c.1.0; ranks = c.1.1 }) (λ _. refl))
