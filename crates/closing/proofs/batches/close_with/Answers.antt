use Rattle.closing.proofs.Agreeing.{sheet_law}
use Rattle.closing.proofs.batches.close_with.Goals as goal

pub returns-in_err-sheet-clause-law : goal.returns-in_err-sheet-clause-law
returns-in_err-sheet-clause-law g c = sheet_law

pub returns-clause-law : goal.returns-clause-law
returns-clause-law g c = sheet_law
