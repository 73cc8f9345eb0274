-- The text of each line of a sheet, with its line feed, and its way into a buffer.
use Rattle.std.specs.Prelude.{ℕ, cond, List, [], ◌∷◌, ◌++◌, length, drop, Ok, Err, codes, decimal, Result, nat_lt}
use Rattle.std.specs.Fmt.{signed_decimal}
use Rattle.std.specs.List.{flat_map}
use Rattle.members.specs.Groups.{members_of}
use Rattle.credit.specs.declared.refusal.Refusal.{Refusal}
use Rattle.credit.specs.declared.refusal.Refusal.TheVariants.{WantOfRoom, BufferTooShort}
use Rattle.credit.specs.Refusals.{number_of}
use Rattle.batch.specs.declared.sheet.SheetLine.{SheetLine}
use Rattle.batch.specs.declared.sheet.SheetLine.TheVariants.{Done, Kept, Undone, Refused, Net, Debt, End}

-- `)` and a line feed
abbrev pub close : List ℕ
close = 41 ∷ 10 ∷ []

-- a space and the number of each member
abbrev pub listed : List ℕ → List ℕ
listed [] = []
listed (m ∷ ms) = codes " " ++ (decimal m ++ listed ms)

-- what a refusal tells beside its number: for want of room, the room of the group and its members, rising
abbrev pub remark : Refusal → List ℕ
remark (WantOfRoom group room) = codes " " ++ (signed_decimal room ++ listed (members_of group.bits))
remark e = []

abbrev pub line_text : SheetLine → List ℕ
line_text (Done l) = codes "(ok " ++ (decimal l ++ close)
line_text (Kept l) = codes "(kept " ++ (decimal l ++ close)
line_text (Undone l) = codes "(undone " ++ (decimal l ++ close)
line_text (Refused l e) = codes "(no " ++ (decimal l ++ (codes " " ++ (decimal (number_of e) ++ (remark e ++ close))))
line_text (Net m n) = codes "(net " ++ (decimal m ++ (codes " " ++ (signed_decimal n ++ close)))
line_text (Debt a b d) = codes "(debt " ++ (decimal a ++ (codes " " ++ (decimal b ++ (codes " " ++ (signed_decimal d ++ close)))))
line_text End = codes "(end)" ++ (10 ∷ [])

-- the whole text of a sheet: the lines' texts one after another
abbrev pub sheet_text : List SheetLine → List ℕ
sheet_text = flat_map line_text

-- the answer of a writing of the text into the buffer: its length, or that the buffer is too short
abbrev pub answer_of : List ℕ → List ℕ → Result ℕ Refusal
answer_of text buffer = cond (nat_lt (length buffer) (length text)) (Err BufferTooShort) (Ok (length text))

-- the buffer after it: the text in front of what stood behind it, or all as it was
abbrev pub filled_by : List ℕ → List ℕ → List ℕ
filled_by text buffer = cond (nat_lt (length buffer) (length text)) buffer (text ++ drop (length text) buffer)
