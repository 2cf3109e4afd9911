use Rattle.std.proofs.Common.{◌≡◌, ◌+◌, ◌-◌, ◌≤◌, ◌<◌, length, take, drop, [], ◌∷◌, List, ℕ, Ok, sym, ap, subst, ◌∙◌, arith}
use Rattle.std.proofs.lemmas.List.{drop-drop}
use Rattle.packet_frame.specs.Scanning.{BeginsWithHead, FollowsRow, ReadsOn, left}
use Rattle.packet_frame.proofs.Names.{good_frame}
use Rattle.packet_frame.proofs.Heads.{head_passed, head_named, passed_row, row_passed, row_ready}
use Rattle.packet_frame.proofs.scan.Scan.take_rows.Goals as goal

pub push_row-requires-clause-good : goal.push_row-requires-clause-good
push_row-requires-clause-good g c = good_frame c.in-Some.name.now c.in-Some.ensures.plain c.in-Some.ensures.some c.in-Some.ensures.most

pub returns-then-self-le1-clause-reads : goal.returns-then-self-le1-clause-reads
returns-then-self-le1-clause-reads g c =
    let s = c.loop-depth.self in
    let bytes = c.args.bytes.now in
    let rest = c.loop-depth.rest.now in
    let ends = c.split_at-in-loop-depth.result.1.now in
    let offset : ℕ = length bytes - length rest in
    let next : ℕ = length bytes - length ends in
    let name = c.in-Some.name.now in
    let old = c.loop-depth.invariant in
    let to : next ≡ offset + (3 + length name) = omega (arith, c.split_at-in-loop-depth.ensures.back_len, old.within) in
    let within : offset ≤ length bytes = omega arith in
    let head : BeginsWithHead (drop offset bytes) c.in-Some.depth name = subst (λ (xs : List ℕ). BeginsWithHead xs c.in-Some.depth name) old.behind c.in-Some.ensures in
    let row : FollowsRow s.row.path s.row.ended c.in-Some.depth name c.push_row.new.path = c.in_ok-push_row.ensures.read (ap Ok c.if-not-branch.false) in
    λ more. old.reads more ∙ head_passed s bytes offset c.in-Some.depth name c.push_row.new.path next old.next old.ready within head row to more

pub returns-then-self-le1-clause-ready : goal.returns-then-self-le1-clause-ready
returns-then-self-le1-clause-ready g c =
    let s = c.loop-depth.self in
    let bytes = c.args.bytes.now in
    let rest = c.loop-depth.rest.now in
    let ends = c.split_at-in-loop-depth.result.1.now in
    let offset : ℕ = length bytes - length rest in
    let next : ℕ = length bytes - length ends in
    let name = c.in-Some.name.now in
    let old = c.loop-depth.invariant in
    let to : next ≡ offset + (3 + length name) = omega (arith, c.split_at-in-loop-depth.ensures.back_len, old.within) in
    let within : offset ≤ length bytes = omega arith in
    let head : BeginsWithHead (drop offset bytes) c.in-Some.depth name = subst (λ (xs : List ℕ). BeginsWithHead xs c.in-Some.depth name) old.behind c.in-Some.ensures in
    let row : FollowsRow s.row.path s.row.ended c.in-Some.depth name c.push_row.new.path = c.in_ok-push_row.ensures.read (ap Ok c.if-not-branch.false) in
    let named = head_named s bytes offset c.in-Some.depth name c.push_row.new.path next old.next old.ready within head row to in
    record { kind = named.kind; covered = named.covered; some = named.some; depth = named.depth; depth_limit = named.depth_limit; len = named.len; before = named.before; grown = named.grown; kept = named.kept }

pub loop-depth-preserved : goal.loop-depth-preserved
loop-depth-preserved g c =
    let s = c.loop-depth.self in
    let bytes = c.args.bytes.now in
    let rest = c.loop-depth.rest.now in
    let ends = c.split_at-in-loop-depth.result.1.now in
    let offset : ℕ = length bytes - length rest in
    let next : ℕ = length bytes - length ends in
    let name = c.in-Some.name.now in
    let old = c.loop-depth.invariant in
    let to : next ≡ offset + (3 + length name) = omega (arith, c.split_at-in-loop-depth.ensures.back_len, old.within) in
    let within : offset ≤ length bytes = omega arith in
    let head : BeginsWithHead (drop offset bytes) c.in-Some.depth name = subst (λ (xs : List ℕ). BeginsWithHead xs c.in-Some.depth name) old.behind c.in-Some.ensures in
    let row : FollowsRow s.row.path s.row.ended c.in-Some.depth name c.push_row.new.path = c.in_ok-push_row.ensures.read (ap Ok c.if-not-branch.false) in
    let behind = c.split_at-in-loop-depth-2.result.1.now in
    let some : 1 < s.row.left = omega (arith, c.if-self-le1.false) in
    let four : 4 ≤ length ends = c.has_no_ends.ensures.within c.if-not-has_no_ends.false in
    let fits : length ends ≤ length bytes = omega (arith, c.split_at-in-loop-depth.ensures.back_len, old.within) in
    let ends_at : ends ≡ drop next bytes = c.split_at-in-loop-depth.ensures.back ∙ ap (drop (3 + length name)) old.behind ∙ drop-drop (3 + length name) offset bytes ∙ ap (λ (n : ℕ). drop n bytes) (sym to) in
    let zeros : take 4 (drop next bytes) ≡ 0 ∷ 0 ∷ 0 ∷ 0 ∷ [] = ap (take 4) (sym ends_at) ∙ c.has_no_ends.ensures.nothing c.if-not-has_no_ends.false in
    let at : next + 4 ≡ length bytes - length behind = omega (arith, c.split_at-in-loop-depth-2.ensures.back_len, fits) in
    record {
      reads = λ more. old.reads more ∙ subst (λ (n : ℕ). ReadsOn bytes (left s) offset (left (passed_row s bytes offset c.in-Some.depth name c.push_row.new.path next old.next old.ready within head row to)) n) at (row_passed s bytes offset c.in-Some.depth name c.push_row.new.path next old.next old.ready within head row to some (omega (arith, four, fits)) zeros) more;
      next = old.next;
      ready = row_ready s bytes offset c.in-Some.depth name c.push_row.new.path next old.next old.ready within head row to some;
      behind = c.split_at-in-loop-depth-2.ensures.back ∙ ap (drop 4) ends_at ∙ drop-drop 4 next bytes ∙ ap (λ (n : ℕ). drop n bytes) at;
      from = omega (arith, old.from, at, to);
      within = omega (arith, c.split_at-in-loop-depth-2.ensures.back_len, fits);
    }
