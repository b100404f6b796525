use Rattle.std.proofs.Common.{◌≡◌, ◌+◌, ◌*◌, ◌++◌, length, take}
use Rattle.std.specs.List.{flat_map}
use Rattle.std.specs.Int.{w32}
use Rattle.dur_base.specs.Fields.{octets}
use Rattle.std.specs.Prelude.{true}
use Rattle.rtps_frag.proofs.asks.put_words.Given as goal

abbrev pub invariant-loop-word : goal.invariant-loop-word
invariant-loop-word l = record {
  text : l.text.items ≡ l.initial.text.items ++ flat_map (λ word. octets true w32 word) (take l.word-index l.used);
  len : length l.text.items ≡ length l.initial.text.items + 4 * l.word-index;
}
