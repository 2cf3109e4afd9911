-- How the parts of a script and of a topology are stored as values.
use Rattle.std.specs.Prelude.{◌≡◌, ℕ, zero, suc, List, Option, refl}
use Rattle.std.specs.Coded.{Coded, code_by, coded×, coded_list, coded_option, coded_ℕ}
use Rattle.overlay_setup.specs.Scripts.{Stream}
use Rattle.overlay_setup.specs.declared.script.Grain.{Grain}
use Rattle.overlay_setup.specs.declared.script.Grain.TheVariants.{Line, Function}
use Rattle.overlay_setup.specs.declared.script.Mode.{Mode}
use Rattle.overlay_setup.specs.declared.script.Mode.TheVariants.{WaitForAll, TimeOut, DontWait}
use Rattle.overlay_setup.specs.declared.script.Fault.{Fault}

-- a mode as a number, and back
abbrev pub mode_number : Mode → ℕ
mode_number WaitForAll = 0
mode_number DontWait = 1
mode_number (TimeOut t) = suc (suc t)

abbrev pub mode_of_number : ℕ → Mode
mode_of_number zero = WaitForAll
mode_of_number (suc zero) = DontWait
mode_of_number (suc (suc t)) = TimeOut t

pub same_mode : (m : Mode) → mode_of_number (mode_number m) ≡ m
same_mode WaitForAll = refl
same_mode DontWait = refl
same_mode (TimeOut t) = refl

abbrev pub coded_mode : Coded Mode
coded_mode = code_by ℕ coded_ℕ mode_number mode_of_number same_mode

-- a grain as a number, and back
abbrev pub grain_number : Grain → ℕ
grain_number Line = 0
grain_number Function = 1

abbrev pub grain_of_number : ℕ → Grain
grain_of_number zero = Line
grain_of_number (suc n) = Function

pub same_grain : (g : Grain) → grain_of_number (grain_number g) ≡ g
same_grain Line = refl
same_grain Function = refl

abbrev pub coded_grain : Coded Grain
coded_grain = code_by ℕ coded_ℕ grain_number grain_of_number same_grain

abbrev pub coded_stream : Coded Stream
coded_stream =
    code_by (ℕ × (Mode × (ℕ × (ℕ × (Grain × List ℕ))))) (coded× coded_ℕ (coded× coded_mode (coded× coded_ℕ (coded× coded_ℕ (coded× coded_grain (coded_list coded_ℕ))))))
    (λ x. (x.number, (x.mode, (x.waves, (x.samples, (x.grain, x.daemons))))))
    (λ c. record { number = c.0; mode = c.1.0; waves = c.1.1.0; samples = c.1.1.1.0; grain = c.1.1.1.1.0; daemons = c.1.1.1.1.1 })
    (λ _. refl)

abbrev pub coded_fault : Coded Fault
coded_fault =
    code_by (ℕ × (ℕ × ℕ)) (coded× coded_ℕ (coded× coded_ℕ coded_ℕ)) (λ f. (f.node, (f.after, f.keep))) (λ c. record { node = c.0; after = c.1.0; keep = c.1.1 }) (λ _. refl)

abbrev pub coded_nodes : Coded (List (List ℕ) × List (Option ℕ))
coded_nodes = coded× (coded_list (coded_list coded_ℕ)) (coded_list (coded_option coded_ℕ))
