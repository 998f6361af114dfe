use Rattle.std.proofs.Common.{◌≡◌, ◌-◌, ◌++◌, string_bytes}
use Rattle.listing.specs.Listings.{for_cores}
use Rattle.listing.proofs.parts.push_all.Given as goal

-- the text so far and that of the cores that are left are the whole
abbrev pub invariant-loop-core : goal.invariant-loop-core
invariant-loop-core g l =
    string_bytes l.text ++ for_cores (g.P.PerCore.text_of l.parts) (l.core-end - l.core) l.core
    ≡ string_bytes l.initial.text ++ for_cores (g.P.PerCore.text_of l.parts) l.core-end 0
