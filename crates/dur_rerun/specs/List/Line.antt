-- What `list` prints of a topic.
use Rattle.std.specs.Prelude.{ℕ, List, [], ◌∷◌, ◌++◌, codes}
use Rattle.std.specs.List.{flat_map}
use Rattle.std.specs.Fmt.{decimal}
use Rattle.hex.specs.Hex.{encode_lower}
use Rattle.dur_base.specs.declared.sample.Act.{Act}
use Rattle.dur_base.specs.declared.sample.Act.TheVariants.{Write, Dispose, Unregister, DisposeUnregister, Marker}
use Rattle.dur_base.specs.declared.sample.Sample.{Sample}
use Rattle.dur_view.specs.declared.change.Change.{Change}

-- What a change does to its instance: it writes it or disposes it. What only unregisters, or is a marker, is no change.
abbrev pub act_text : Act → List ℕ
act_text Write = codes " write "
act_text Dispose = codes " dispose "
act_text DisposeUnregister = codes " dispose "
act_text Unregister = codes " dispose "
act_text Marker = codes " dispose "

-- a payload as hex, or a dash
abbrev pub payload_text : List ℕ → List ℕ
payload_text [] = 45 ∷ []
payload_text (b ∷ bytes) = encode_lower (b ∷ bytes)

-- original writer, original number, key, `write` or `dispose`, stamp and payload
unfoldable pub change_words : List ℕ → ℕ → Sample → List ℕ
change_words original number s =
    encode_lower original ++ 32 ∷ [] ++ decimal number ++ 32 ∷ [] ++ encode_lower s.key
    ++ act_text s.act ++ decimal s.stamp ++ 32 ∷ [] ++ payload_text s.payload

-- the end of a line behind them
unfoldable pub change_text : List ℕ → ℕ → Sample → List ℕ
change_text original number s = change_words original number s ++ 10 ∷ []

-- the topic before these words
unfoldable pub list_line : List ℕ → Change → List ℕ
list_line topic c = topic ++ 32 ∷ [] ++ change_text c.original c.number c.sample

abbrev pub topic_text : List ℕ → List Change → List ℕ
topic_text topic changes = flat_map (list_line topic) changes
