use Rattle.std.proofs.Common.{◌≡◌, drop}
use Rattle.mirror_plan.specs.Listing.{IsBefore, IsAscending}
use Rattle.mirror_plan.specs.Plan.{kept_below, holds_kept}
use Rattle.mirror_plan.proofs.decide.holds_kept.Given as goal

-- the entries that are left come after the folder, and hold what it holds
abbrev pub invariant-loop-entry : goal.invariant-loop-entry
invariant-loop-entry l = record {
  before : IsBefore l.folder (drop l.entry-index l.entry-items);
  ascending : IsAscending (drop l.entry-index l.entry-items);
  rest : kept_below (drop l.entry-index l.entry-items) l.folder ≡ holds_kept l.to l.folder;
}
