-- A lose line, one way out at a time.
use Rattle.std.proofs.Common.{◌≡◌, ℕ, List, Ok, Err, refl}
use Rattle.overlay_setup.specs.Topologies.{Nodes}
use Rattle.overlay_setup.specs.declared.script.Fault.{Fault}
use Rattle.text_lines.specs.declared.text_error.TextError.{TextError}
use Rattle.text_lines.specs.declared.text_error.TextError.TheVariants.{Bad}
use Rattle.text_lines.specs.declared.text_error.Reason.TheVariants.{BadNumber}
use Rattle.script_text.specs.Words.{LoseWords}
use Rattle.script_text.specs.Numbers.{number_from}
use Rattle.script_text.specs.Losses.{lost_node, fault_of}

module _ (t : Nodes) (faults : List Fault) (line : ℕ) (w : LoseWords) where
  pub fault_bad_node : (e : TextError) → lost_node t faults line w.name ≡ Err e → fault_of t faults line w ≡ Err e
  unfolding fault_of
  fault_bad_node e h = rw (h, fault_of) refl

  module _ (n : ℕ) (a : lost_node t faults line w.name ≡ Ok n) where
    pub fault_bad_after : (e : TextError) → number_from line 0 65535 (Bad line BadNumber) w.after ≡ Err e → fault_of t faults line w ≡ Err e
    unfolding fault_of
    fault_bad_after e h = rw (a, h, fault_of) refl

    module _ (after : ℕ) (b : number_from line 0 65535 (Bad line BadNumber) w.after ≡ Ok after) where
      pub fault_bad_keep : (e : TextError) → number_from line 0 65535 (Bad line BadNumber) w.keep ≡ Err e → fault_of t faults line w ≡ Err e
      unfolding fault_of
      fault_bad_keep e h = rw (a, b, h, fault_of) refl

      pub fault_good : (keep : ℕ) → number_from line 0 65535 (Bad line BadNumber) w.keep ≡ Ok keep → fault_of t faults line w ≡ Ok (record { node = n; after = after; keep = keep })
      unfolding fault_of
      fault_good keep h = rw (a, b, h, fault_of) refl
