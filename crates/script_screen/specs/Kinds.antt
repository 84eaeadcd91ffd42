-- What can be wrong with a line: the words for it, and the order in which it is looked for.
use Rattle.std.specs.Prelude.{ℕ, List, codes, nat_le, if◌then◌else◌}
use Rattle.script_screen.specs.declared.kinds.TextKind.{TextKind}
use Rattle.script_screen.specs.declared.kinds.TextKind.TheVariants as kind

abbrev pub text_kind_word : TextKind → List ℕ
text_kind_word kind.TooLong = codes "TooLong"
text_kind_word kind.BadWord = codes "BadWord"
text_kind_word kind.NoPrimary = codes "NoPrimary"
text_kind_word kind.NoTurn = codes "NoTurn"
text_kind_word kind.SecondPrimary = codes "SecondPrimary"
text_kind_word kind.BadNumber = codes "BadNumber"
text_kind_word kind.BadHex = codes "BadHex"
text_kind_word kind.UnknownScreen = codes "UnknownScreen"
text_kind_word kind.AlreadyDown = codes "AlreadyDown"
text_kind_word kind.NotDown = codes "NotDown"
text_kind_word kind.MomentBack = codes "MomentBack"
text_kind_word kind.WrongNumber = codes "WrongNumber"
text_kind_word kind.UnknownConnection = codes "UnknownConnection"

-- its place in the order in which one line is looked at
abbrev pub place_in_order : TextKind → ℕ
place_in_order kind.TooLong = 0
place_in_order kind.BadWord = 1
place_in_order kind.NoPrimary = 2
place_in_order kind.NoTurn = 3
place_in_order kind.SecondPrimary = 4
place_in_order kind.BadNumber = 5
place_in_order kind.BadHex = 6
place_in_order kind.UnknownScreen = 7
place_in_order kind.AlreadyDown = 8
place_in_order kind.NotDown = 9
place_in_order kind.MomentBack = 10
place_in_order kind.WrongNumber = 11
place_in_order kind.UnknownConnection = 12

-- the one of two that is looked for first
abbrev pub earlier : TextKind → TextKind → TextKind
earlier k j = if nat_le (place_in_order k) (place_in_order j) then k else j
