-- A program's input: cores, slot width, service width, path and arbiter, one byte each, then the bundle.
use Rattle.std.specs.Prelude.{ℕ, cond, ◌||◌, List, length, drop, Ok, Err, Result, ◌==◌, nat_lt, slice_index}
use Rattle.refusal.specs.declared.Reason.TheVariants.{InputSize}
use Rattle.refusal.specs.declared.Refusal.{Refusal}
use Rattle.refusal.specs.Refusals.{refusal, and_then}
use Rattle.model.specs.declared.Path.{Path}
use Rattle.model.specs.declared.ArbiterChoice.{ArbiterChoice}
use Rattle.model.specs.Numbers.{cores_check, path_check, arbiter_check}
use Rattle.trace.specs.declared.bundle.Bundle.{Bundle}
use Rattle.trace.specs.Bundle.{bundle_of}
use Rattle.input.specs.declared.Settings.{Settings}
use Rattle.input.specs.declared.Input.{Input}

-- the longest input
abbrev pub size_limit : ℕ
size_limit = 65536

-- a width of 0 stands for the default
abbrev pub width_or : ℕ → ℕ → ℕ
width_or given default = cond (given == 0) default given

-- the settings, with the number of cores as a plain number
pub record Plain : Type 0 where
  pub cores : ℕ
  pub slot : ℕ
  pub service : ℕ
  pub path : Path
  pub arbiter : ArbiterChoice

abbrev pub plain : Settings → Plain
plain s = record { cores = s.cores.count; slot = s.slot_width; service = s.service_width; path = s.path; arbiter = s.arbiter }

abbrev pub plain_settings : Result Settings Refusal → Result Plain Refusal
plain_settings (Ok s) = Ok (plain s)
plain_settings (Err f) = Err f

abbrev pub plain_input : Result Input Refusal → Result (Plain × Bundle) Refusal
plain_input (Ok i) = Ok (plain i.settings, i.bundle)
plain_input (Err f) = Err f

-- the settings of an input, which has 5 bytes at least
abbrev pub settings_of : List ℕ → Result Plain Refusal
settings_of bytes =
    cond (nat_lt (length bytes) 5 || nat_lt size_limit (length bytes)) (Err (refusal InputSize 0))
    (and_then (cores_check (slice_index bytes 0)) (λ n.
    and_then (path_check (slice_index bytes 3)) (λ p.
    and_then (arbiter_check (slice_index bytes 4)) (λ a.
    Ok (record { cores = n; slot = width_or (slice_index bytes 1) 4; service = width_or (slice_index bytes 2) 50; path = p; arbiter = a })))))

-- the settings and the bundle after them
abbrev pub input_of : List ℕ → Result (Plain × Bundle) Refusal
input_of bytes = and_then (settings_of bytes) (λ s. and_then (bundle_of (drop 5 bytes) s.cores) (λ b. Ok (s, b)))
