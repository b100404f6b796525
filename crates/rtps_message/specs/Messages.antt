-- A message as a whole (DDSI-RTPS 8.3.3): its header, its submessages, and how it ends.
use Rattle.std.specs.Prelude.{◌≡◌, ◌⊎◌, ℕ, ◌+◌, ◌-◌, ◌<◌, ◌≤◌, List, [], ◌∷◌, length, take, drop, slice_index}
use Rattle.rtps_submsg.specs.declared.sub.Sub.{Sub}
use Rattle.rtps_submsg.specs.declared.sub.SubKind.{SubKind}
use Rattle.rtps_submsg.specs.Subs.{SubSpells, SubBreaks}
use Rattle.rtps_message.specs.declared.heard.End.{End}
use Rattle.rtps_message.specs.declared.heard.End.TheVariants.{Whole, BadHeader, Stopped}
use Rattle.rtps_message.specs.declared.heard.Heard.{Heard}
use Rattle.rtps_message.specs.declared.context.Context.{Context}
use Rattle.rtps_message.specs.Facts.{start, told_of}

-- 20 octets at least, "RTPS" first, and a major version of 2
pub record HasHeader (bytes : List ℕ) : Type 0 where
  pub long : 20 ≤ length bytes
  pub protocol : take 4 bytes ≡ 82 ∷ 84 ∷ 80 ∷ 83 ∷ []
  pub major : slice_index bytes 4 ≡ 2

-- the octets are these submessages, one after the other, and then a rest
abbrev pub Splits : List ℕ → List Sub → List ℕ → Type 0
Splits bytes [] rest = bytes ≡ rest
Splits bytes (s ∷ subs) rest = (n : ℕ) × SubSpells bytes s n × Splits (drop n bytes) subs rest

-- a faulty submessage begins the rest; its place counts from the message's first octet
pub record StopsAt (bytes rest : List ℕ) (at : ℕ) (kind : SubKind) : Type 0 where
  pub more : 0 < length rest
  pub place : ℕ
  pub breaks : SubBreaks rest place kind
  pub at_is : at ≡ (length bytes - length rest) + place

-- how a message with a header ends
abbrev pub Ends : List ℕ → List ℕ → End → Type 0
Ends bytes rest Whole = rest ≡ []
Ends bytes rest BadHeader = ⊥
Ends bytes rest (Stopped at kind) = StopsAt bytes rest at kind

-- The submessages behind the header, each read where the one before it ends, tell the facts. The first
-- faulty one ends the message, and the facts before it stand.
pub record Says (own bytes : List ℕ) (c : Context) (heard : Heard) : Type 0 where
  pub subs : List Sub
  pub rest : List ℕ
  pub splits : Splits (drop 20 bytes) subs rest
  pub ends : Ends bytes rest heard.end
  pub facts : heard.facts ≡ told_of own c subs

-- the submessages behind the header end so
pub record HasEnd (bytes : List ℕ) (end : End) : Type 0 where
  pub subs : List Sub
  pub rest : List ℕ
  pub splits : Splits (drop 20 bytes) subs rest
  pub ends : Ends bytes rest end

-- The facts and the end of a message. Without a good header it tells nothing.
abbrev pub Hears : List ℕ → List ℕ → Heard → Type 0
Hears own bytes heard =
    (HasHeader bytes × Says own bytes (start bytes) heard)
    ⊎ ((HasHeader bytes → ⊥) × (heard ≡ record { facts = []; end = BadHeader }))

-- each participant hears one thing in it, and nothing else
pub record HasOneHearing (bytes : List ℕ) : Type 0 where
  pub some : (own : List ℕ) → (heard : Heard) × Hears own bytes heard
  pub one : (own : List ℕ) (h g : Heard) → Hears own bytes h → Hears own bytes g → h ≡ g
