use Rattle.std.proofs.Common.{◌≡◌, ◌++◌, take}
use Rattle.std.specs.List.{flat_map}
use Rattle.std.specs.Fmt.{decimal}
use Rattle.message_codec.specs.Showing.{after_blank}
use Rattle.message_codec.proofs.show_line.put_words.Given as goal

abbrev pub invariant-loop-word : goal.invariant-loop-word
invariant-loop-word l =
    l.out ≡ l.fn.out ++ flat_map (λ n. after_blank (decimal n)) (take l.word-index l.words)
