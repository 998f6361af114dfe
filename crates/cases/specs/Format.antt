-- Worked cases of the formats: bytes, and what the rules say of them.
use Rattle.std.specs.Prelude.{◌≡◌, ℕ, ◌+◌, ◌-◌, List, [], ◌∷◌, ◌++◌, map, length, replicate, Ok, Err, codes, Result}
use Rattle.refusal.specs.declared.Refusal.{Refusal}
use Rattle.refusal.specs.Refusals.{number}
use Rattle.model.specs.declared.Kind.{Kind}
use Rattle.model.specs.declared.Kind.TheVariants.{Load, Store, Replace}
use Rattle.model.specs.declared.Path.TheVariants.{ThroughMemory, Direct}
use Rattle.model.specs.declared.ArbiterChoice.TheVariants.{WorkConserving, RoundRobin}
use Rattle.model.specs.Numbers.{cores_check}
use Rattle.trace.specs.declared.Record.{Record}
use Rattle.trace.specs.declared.bundle.Span.{Span}
use Rattle.trace.specs.declared.bundle.Bundle.{Bundle}
use Rattle.trace.specs.Whole.{trace_in}
use Rattle.trace.specs.Bundle.{span, no_trace, bundle_of}
use Rattle.input.specs.Inputs.{Plain, settings_of}
use Rattle.listing.specs.Listings.{listing_text}

-- an answer, a refusal by its number and place
pub data Answer (A : Type 0) : Type 0 where
  gives : A → Answer A
  refuses : ℕ → ℕ → Answer A

abbrev pub told : {A : Type 0} → Result A Refusal → Answer A
told (Ok x) = gives x
told (Err f) = refuses (number f.reason) f.place

-- every case is answered as the rules say
abbrev pub Agree : {A B : Type 0} → (A → Result B Refusal) → List (A × Answer B) → Type 0
Agree rule cases = map (λ c. told (rule c.0)) cases ≡ map (λ c. c.1) cases

abbrev pub access : Kind → ℕ → ℕ → ℕ → Record
access k g l w = record { gap = g; line = l; word = w; kind = k }

-- traces that stand alone
abbrev pub trace_cases : List (List ℕ × Answer (List Record))
trace_cases =
    ([], gives [])
    ∷ (0x00 ∷ [], gives (access Load 0 0 0 ∷ []))
    ∷ (0x01 ∷ 0x00 ∷ 0x00 ∷ [], refuses 14 0)
    ∷ (0x10 ∷ [], refuses 11 0)
    ∷ (0x08 ∷ [], refuses 12 0)
    ∷ (0x08 ∷ 0x00 ∷ [], refuses 13 0)
    ∷ (0x09 ∷ 0x00 ∷ 0x00 ∷ 0x07 ∷ [], refuses 13 0)
    ∷ (0x09 ∷ 0x00 ∷ 0x00 ∷ [], refuses 12 0)
    ∷ (0x19 ∷ 0x00 ∷ 0x00 ∷ [], refuses 11 0)
    ∷ (0x02 ∷ 0x00 ∷ [], refuses 14 0)
    ∷ (0x0c ∷ 0x00 ∷ 0x00 ∷ 0x00 ∷ 0x00 ∷ 0x05 ∷ [], refuses 13 0)
    ∷ (0x04 ∷ 0x00 ∷ 0x00 ∷ 0x00 ∷ 0x05 ∷ [], refuses 14 0)
    ∷ (0x0c ∷ 0x00 ∷ 0x00 ∷ 0x00 ∷ 0x05 ∷ 0x02 ∷ [], refuses 14 0)
    ∷ (0x0c ∷ 0x00 ∷ 0x00 ∷ 0x00 ∷ 0x05 ∷ 0x01 ∷ [], gives (access Store 0 0 5 ∷ []))
    ∷ (0x08 ∷ 0x01 ∷ [], gives (access Store 0 0 0 ∷ []))
    ∷ (0x08 ∷ 0x02 ∷ [], gives (access Replace 0 0 0 ∷ []))
    ∷ (0x0f ∷ 0x00 ∷ 0x08 ∷ 0x02 ∷ 0x00 ∷ 0x00 ∷ 0x00 ∷ 0x05 ∷ 0x01 ∷ 0x0e ∷ 0x01 ∷ 0x00 ∷ 0x00 ∷ 0x00 ∷ 0x09 ∷ 0x01 ∷ [], gives (access Store 8 2 5 ∷ access Store 0 1 9 ∷ []))
    ∷ (0x02 ∷ 0x05 ∷ 0x00 ∷ 0x02 ∷ 0x00 ∷ [], gives (access Load 0 5 0 ∷ access Load 0 5 0 ∷ access Load 0 0 0 ∷ []))
    ∷ (0x02 ∷ 0x05 ∷ 0x02 ∷ 0x05 ∷ [], refuses 14 2)
    ∷ (0x00 ∷ 0x10 ∷ [], refuses 11 1)
    ∷ []

-- the traces of the first cores, and none of the others
abbrev pub traces : List Span → Bundle
traces first = record { spans = first ++ replicate (8 - length first) no_trace }

-- bundles, each for a number of cores
abbrev pub bundle_cases : List ((List ℕ × ℕ) × Answer Bundle)
bundle_cases =
    (([], 2), refuses 12 0)
    ∷ ((0x00 ∷ [], 2), gives (traces []))
    ∷ ((0x04 ∷ [], 2), refuses 11 0)
    ∷ ((0x80 ∷ [], 8), refuses 12 1)
    ∷ ((0x01 ∷ 0x00 ∷ [], 1), refuses 12 1)
    ∷ ((0x01 ∷ 0x00 ∷ 0x05 ∷ 0x00 ∷ [], 1), refuses 12 1)
    ∷ ((0x01 ∷ 0x00 ∷ 0x05 ∷ 0x10 ∷ [], 1), refuses 12 1)
    ∷ ((0x01 ∷ 0x00 ∷ 0x00 ∷ [], 1), gives (traces (span 3 3 0 ∷ [])))
    ∷ ((0x03 ∷ 0x00 ∷ 0x01 ∷ 0x08 ∷ 0x00 ∷ 0x02 ∷ 0x08 ∷ 0x01 ∷ [], 2), refuses 12 3)
    ∷ ((0x01 ∷ 0x00 ∷ 0x01 ∷ 0x00 ∷ 0xff ∷ [], 1), refuses 15 4)
    ∷ ((0x03 ∷ 0x00 ∷ 0x01 ∷ 0x10 ∷ 0x00 ∷ 0x02 ∷ 0x10 ∷ 0x00 ∷ [], 2), refuses 11 3)
    ∷ ((0x03 ∷ 0x00 ∷ 0x0b ∷ 0x0e ∷ 0x01 ∷ 0x00 ∷ 0x00 ∷ 0x00 ∷ 0x07 ∷ 0x01 ∷ 0x03 ∷ 0x00 ∷ 0x05 ∷ 0x02 ∷ 0x00 ∷ 0x10 ∷ 0x0f ∷ 0x00 ∷ 0x08 ∷ 0x02 ∷ 0x00 ∷ 0x00 ∷ 0x00 ∷ 0x05 ∷ 0x01 ∷ 0x0e ∷ 0x01 ∷ 0x00 ∷ 0x00 ∷ 0x00 ∷ 0x09 ∷ 0x01 ∷ [], 2), gives (traces (span 3 14 2 ∷ span 16 32 2 ∷ [])))
    ∷ []

-- numbers of cores
abbrev pub cores_cases : List (ℕ × Answer ℕ)
cores_cases = (1, gives 1) ∷ (8, gives 8) ∷ (0, refuses 2 0) ∷ (9, refuses 2 0) ∷ (256, refuses 2 0) ∷ []

-- settings: cores, slot width, service width, path, arbiter
abbrev pub settings_cases : List (List ℕ × Answer Plain)
settings_cases =
    (0x02 ∷ 0x04 ∷ 0x04 ∷ 0x00 ∷ [], refuses 1 0)
    ∷ (0x00 ∷ 0x00 ∷ 0x00 ∷ 0x00 ∷ 0x00 ∷ [], refuses 2 0)
    ∷ (0x09 ∷ 0x00 ∷ 0x00 ∷ 0x00 ∷ 0x00 ∷ [], refuses 2 0)
    ∷ (0x01 ∷ 0x00 ∷ 0x00 ∷ 0x02 ∷ 0x00 ∷ [], refuses 4 0)
    ∷ (0x01 ∷ 0x00 ∷ 0x00 ∷ 0x00 ∷ 0x03 ∷ [], refuses 4 0)
    ∷ (0x00 ∷ 0x00 ∷ 0x00 ∷ 0x02 ∷ 0x03 ∷ [], refuses 2 0)
    ∷ (0x08 ∷ 0x00 ∷ 0x00 ∷ 0x00 ∷ 0x00 ∷ [], gives (record { cores = 8; slot = 4; service = 50; path = ThroughMemory; arbiter = WorkConserving }))
    ∷ (0x02 ∷ 0xff ∷ 0x01 ∷ 0x01 ∷ 0x02 ∷ [], gives (record { cores = 2; slot = 255; service = 1; path = Direct; arbiter = RoundRobin }))
    ∷ []

-- inputs, and what is printed for them
abbrev pub listing_cases : List (List ℕ × List ℕ)
listing_cases =
    (0x02 ∷ 0x04 ∷ 0x04 ∷ 0x00 ∷ 0x00 ∷ 0x03 ∷ 0x00 ∷ 0x0b ∷ 0x0e ∷ 0x01 ∷ 0x00 ∷ 0x00 ∷ 0x00 ∷ 0x07 ∷ 0x01 ∷ 0x03 ∷ 0x00 ∷ 0x05 ∷ 0x02 ∷ 0x00 ∷ 0x10 ∷ 0x0f ∷ 0x00 ∷ 0x08 ∷ 0x02 ∷ 0x00 ∷ 0x00 ∷ 0x00 ∷ 0x05 ∷ 0x01 ∷ 0x0e ∷ 0x01 ∷ 0x00 ∷ 0x00 ∷ 0x00 ∷ 0x09 ∷ 0x01 ∷ [], codes "core,index,gap,kind,line,word\n0,0,0,S,1,7\n0,1,5,L,2,0\n1,0,8,S,2,5\n1,1,0,S,1,9\ntotal,0:2:11,1:2:16\n")
    ∷ (0x01 ∷ 0x00 ∷ 0x00 ∷ 0x00 ∷ 0x00 ∷ 0x01 ∷ 0x00 ∷ 0x01 ∷ 0x10 ∷ [], codes "refused,11,3\n")
    ∷ (0x02 ∷ 0x00 ∷ 0x00 ∷ 0x01 ∷ 0x02 ∷ 0x00 ∷ [], codes "core,index,gap,kind,line,word\ntotal,0:0:0,1:0:0\n")
    ∷ ([], codes "refused,1,0\n")
    ∷ []

-- **The worked cases of traces, bundles, numbers of cores, settings and listings.**
pub record FormatCases : Type 0 where
  pub of_traces : Agree trace_in trace_cases
  pub of_bundles : Agree (λ c. bundle_of c.0 c.1) bundle_cases
  pub of_cores : Agree cores_check cores_cases
  pub of_settings : Agree settings_of settings_cases
  pub of_listings : map (λ c. listing_text c.0) listing_cases ≡ map (λ c. c.1) listing_cases

abbrev pub format_count : ℕ
format_count = length trace_cases + length bundle_cases + length cores_cases + length settings_cases + length listing_cases
