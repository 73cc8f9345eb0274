-- Calls on a ledger and their answers, in words.
use Rattle.std.specs.Prelude.{ℕ, Bool, true, false, List, ◌++◌, codes, decimal}
use Rattle.std.specs.Fmt.{signed_decimal}
use Rattle.credit.specs.Refusals.{number_of}
use Rattle.credit.specs.Sentences.{payment_words}
use Rattle.calls.specs.declared.call.Answer.{Answer}
use Rattle.calls.specs.declared.call.Answer.TheVariants.{Done, Reserved, Released, Kept, Undone, Refused}
use Rattle.calls.specs.declared.call.Call.{Call}
use Rattle.calls.specs.declared.call.Call.TheVariants.{Open, Pay, Reserve, Book, Release, Begin, End, Abandon, Tidy}

abbrev pub call_words : Call → List ℕ
call_words (Open a b t u) = codes "line " ++ (decimal a ++ (codes " " ++ (decimal b ++ (codes " " ++ (signed_decimal t ++ (codes " " ++ signed_decimal u))))))
call_words (Pay places pay) = codes "pay " ++ payment_words pay
call_words (Reserve places pay) = codes "reserve " ++ payment_words pay
call_words (Book places pay) = codes "book " ++ payment_words pay
call_words (Release pay) = codes "release " ++ payment_words pay
call_words Begin = codes "begin"
call_words End = codes "end"
call_words Abandon = codes "abandon"
call_words Tidy = codes "tidy"

-- whether there was a reservation to release
abbrev pub released_words : Bool → List ℕ
released_words true = codes "released"
released_words false = codes "none to release"

-- a refusal by its number
abbrev pub answer_words : Answer → List ℕ
answer_words Done = codes "done"
answer_words (Reserved pay) = codes "reserved"
answer_words (Released stood) = released_words stood
answer_words Kept = codes "kept"
answer_words Undone = codes "undone"
answer_words (Refused e) = codes "refused " ++ decimal (number_of e)
