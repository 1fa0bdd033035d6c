-- `gdt_index`: after so many turns so many entries of the walk are stored.
use Rattle.gdt.proofs.FillingLaws.{Filled}
use Rattle.gdt.proofs.gdt_index.Given as goal

abbrev pub invariant-loop-entry : goal.invariant-loop-entry
invariant-loop-entry l = Filled l.set l.entry-items l.entry-index l.walk
