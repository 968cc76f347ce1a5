-- The numbers that the faults of an archive go by, and what each names.
use Rattle.std.specs.Prelude.{ℕ, Some, None, Option}
use Rattle.region.specs.declared.refusals.CheckRefusal.{CheckRefusal}
use Rattle.region.specs.Check.{check_number}
use Rattle.encoding.specs.declared.faults.FieldFault.{FieldFault}
use Rattle.encoding.specs.declared.faults.FieldFault.TheVariants.{NoFit, Malformed, BadTitle, NoSuchDate}
use Rattle.encoding.specs.declared.faults.PlanFault.{PlanFault}
use Rattle.encoding.specs.declared.faults.PlanFault.TheVariants.{InField, InRows}
use Rattle.encoding.specs.declared.faults.ArchiveFault.{ArchiveFault}
use Rattle.encoding.specs.declared.faults.ArchiveFault.TheVariants.{AtField, InPlan}

abbrev pub field_number : FieldFault → ℕ
field_number NoFit = 12
field_number Malformed = 13
field_number BadTitle = 15
field_number NoSuchDate = 17

abbrev pub plan_number : PlanFault → ℕ
plan_number (InField place fault) = field_number fault
plan_number (InRows refusal) = check_number refusal

abbrev pub fault_number : ArchiveFault → ℕ
fault_number (AtField place fault) = field_number fault
fault_number (InPlan place plan fault) = plan_number fault

-- the byte place of the field at fault, and of the plan's field where its rows are
abbrev pub fault_place : ArchiveFault → ℕ
fault_place (AtField place fault) = place
fault_place (InPlan place plan (InField inner fault)) = inner
fault_place (InPlan place plan (InRows refusal)) = place

-- the plan's number, from 1; outside the plans it is 0
abbrev pub fault_plan : ArchiveFault → ℕ
fault_plan (AtField place fault) = 0
fault_plan (InPlan place plan fault) = plan

abbrev pub fault_check : ArchiveFault → Option CheckRefusal
fault_check (AtField place fault) = None
fault_check (InPlan place plan (InField inner fault)) = None
fault_check (InPlan place plan (InRows refusal)) = Some refusal
