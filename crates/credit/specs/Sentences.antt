-- Each refusal as a sentence that a person can read, and the words of a payment.
use Rattle.std.specs.Prelude.{ℕ, List, ◌++◌, ℤ, Some, None, codes, decimal, Option}
use Rattle.std.specs.Fmt.{signed_decimal}
use Rattle.credit.specs.declared.payment.Payment.{Payment}
use Rattle.credit.specs.declared.refusal.Refusal.{Refusal}
use Rattle.credit.specs.declared.refusal.Refusal.TheVariants.{LineTooLong, UnknownForm, WrongParts, NotANumber, NoSuchMember, SameMember, OutOfRange, ReservationStands, Spoiled, PairHasLine, TooManyLines, SavepointOpen, TooManySavepoints, NoSavepoint, NoSuchReservation, WantOfRoom, BadPlanSheet, LeftOpen, BufferTooShort, BatchTooLong}

-- why, in plain words
abbrev pub reason_of : Refusal → List ℕ
reason_of LineTooLong = codes "a line has more than 40 bytes"
reason_of UnknownForm = codes "not one of the forms"
reason_of WrongParts = codes "a closing bracket is missing or the count of parts is wrong"
reason_of NotANumber = codes "a part is not a number"
reason_of NoSuchMember = codes "a member is not 0 to 63"
reason_of SameMember = codes "both members are the same"
reason_of OutOfRange = codes "an amount or a trust is out of range"
reason_of ReservationStands = codes "a reservation stands"
reason_of Spoiled = codes "the inmost group of payments is spoiled"
reason_of PairHasLine = codes "the pair has a line"
reason_of TooManyLines = codes "there are 256 lines"
reason_of SavepointOpen = codes "a group of payments is open"
reason_of TooManySavepoints = codes "eight groups of payments are open"
reason_of NoSavepoint = codes "no group of payments is open"
reason_of NoSuchReservation = codes "no reservation with these numbers stands"
reason_of (WantOfRoom group room) = codes "want of room"
reason_of BadPlanSheet = codes "the lines and the plan sheet do not fit together"
reason_of LeftOpen = codes "a group of payments was left open"
reason_of BufferTooShort = codes "the buffer is too short for the line"
reason_of BatchTooLong = codes "a batch has more than 32,768 bytes"

-- the room of the group that was named, where room was wanting
abbrev pub room_of : Refusal → Option ℤ
room_of LineTooLong = None
room_of UnknownForm = None
room_of WrongParts = None
room_of NotANumber = None
room_of NoSuchMember = None
room_of SameMember = None
room_of OutOfRange = None
room_of ReservationStands = None
room_of Spoiled = None
room_of PairHasLine = None
room_of TooManyLines = None
room_of SavepointOpen = None
room_of TooManySavepoints = None
room_of NoSavepoint = None
room_of NoSuchReservation = None
room_of (WantOfRoom group room) = Some room
room_of BadPlanSheet = None
room_of LeftOpen = None
room_of BufferTooShort = None
room_of BatchTooLong = None

abbrev pub with_room : List ℕ → Option ℤ → List ℕ
with_room reason None = reason
with_room reason (Some room) = reason ++ (codes ": a group with the payer inside and the payee outside has room " ++ signed_decimal room)

-- what is printed of a refusal
abbrev pub sentence : Refusal → List ℕ
sentence e = with_room (reason_of e) (room_of e)

-- a payment's payer, payee and amount
abbrev pub payment_words : Payment → List ℕ
payment_words pay = decimal pay.payer ++ (codes " " ++ (decimal pay.payee ++ (codes " " ++ signed_decimal pay.amount)))
