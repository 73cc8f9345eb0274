-- Every refusal with its number, and the first that applies of a table of checks.
use Rattle.std.specs.Prelude.{ℕ, Bool, cond, Ok, Err, Result}
use Rattle.credit.specs.declared.refusal.Refusal.{Refusal}
use Rattle.credit.specs.declared.refusal.Refusal.TheVariants.{LineTooLong, UnknownForm, WrongParts, NotANumber, NoSuchMember, SameMember, OutOfRange, ReservationStands, Spoiled, PairHasLine, TooManyLines, SavepointOpen, TooManySavepoints, NoSavepoint, NoSuchReservation, WantOfRoom, BadPlanSheet, LeftOpen, BufferTooShort, BatchTooLong}

abbrev pub number_of : Refusal → ℕ
number_of LineTooLong = 1
number_of UnknownForm = 2
number_of WrongParts = 3
number_of NotANumber = 4
number_of NoSuchMember = 5
number_of SameMember = 6
number_of OutOfRange = 7
number_of ReservationStands = 8
number_of Spoiled = 9
number_of PairHasLine = 10
number_of TooManyLines = 11
number_of SavepointOpen = 12
number_of TooManySavepoints = 13
number_of NoSavepoint = 14
number_of NoSuchReservation = 15
number_of (WantOfRoom group room) = 16
number_of BadPlanSheet = 17
number_of LeftOpen = 18
number_of BufferTooShort = 19
number_of BatchTooLong = 20

-- what a table of checks says: nothing applies, or the first refusal that does
abbrev pub Verdict : Type 0
Verdict = Result (Unit {0}) Refusal

abbrev pub passes : Verdict
passes = Ok tt

-- the refusal where the test holds, else what the rest of the table says
abbrev pub check : Bool → Refusal → Verdict → Verdict
check t e rest = cond t (Err e) rest
