-- What the submessages that were read do and tell, and those that follow.
use Rattle.std.proofs.Common.{◌≡◌, ℕ, ◌+◌, ◌-◌, ◌<◌, ◌≤◌, List, [], ◌∷◌, ◌++◌, length, drop, refl, sym, ap, subst, ◌∙◌, append_assoc, append-nil, inl, inr, length-append, arith}
use Rattle.std.proofs.lemmas.List.{drop-drop, drop_all, length-drop}
use Rattle.std.specs.Prelude.{Option, None, Bool, true, false, Ok}
use Rattle.std.specs.Int.{w16}
use Rattle.dur_base.specs.Fields.{octets}
use Rattle.rtps_submsg.specs.declared.sub.Sub.{Sub}
use Rattle.rtps_submsg.specs.declared.sub.Sub.TheVariants.{Other}
use Rattle.rtps_submsg.specs.declared.sub.SubKind.TheVariants.{Cut, BothDataAndKey, BadNumber, BadSet, BadRange, BadOffset, List as InList}
use Rattle.rtps_submsg.specs.Rows.{has}
use Rattle.rtps_submsg.specs.Headers.{Framed, Frames, HeadBreaks}
use Rattle.rtps_submsg.specs.Subs.{SubSpells, SubBreaks}
use Rattle.rtps_message.specs.declared.context.Context.{Context}
use Rattle.rtps_message.specs.Facts.{is_for, after, told}
use Rattle.rtps_frag.specs.declared.body.FragBeat.{FragBeat}
use Rattle.rtps_frag.specs.Bodies.{Fragments, FragmentsSpell, beat_at}
use Rattle.rtps_frag.proofs.Places.{made}
use Rattle.std.specs.Option.{option_to_list}
use Rattle.dur_base.specs.declared.fact.Fact.{Fact}
use Rattle.rtps_submsg.specs.declared.sub.SubKind.{SubKind}
use Rattle.rtps_message.specs.declared.heard.End.TheVariants.{Whole, Stopped}
use Rattle.rtps_frag.specs.declared.asks.FragAsk.{FragAsk}
use Rattle.rtps_frag.specs.Samples.{Opened}
use Rattle.rtps_frag.specs.Joining.{Item, plain, pieces, beat, flags_of, body_of, is_other, asked_in, with_pieces, ItemBreaks, Standing, Step, Goes, told_of, Splits, Says}

-- all submessages, where these are the ones that are left
pub record Covers (own bytes : List ℕ) (begin : Standing) (facts : List Fact) (asks : List FragAsk) (s : Standing) (items : List Item) (rest : List ℕ) : Type 0 where
  pub all : List Item
  pub splits : Splits (drop 20 bytes) all rest
  pub tells : (told_of own begin all).facts ≡ facts ++ (told_of own s items).facts
  pub wants : (told_of own begin all).asks ≡ asks ++ (told_of own s items).asks
  pub leaves : (told_of own begin all).last ≡ (told_of own s items).last

-- what was told so far, and what the octets from a place on tell, are what the whole tells
pub record Stands (own bytes : List ℕ) (begin : Standing) (facts : List Fact) (asks : List FragAsk) (s : Standing) (at : ℕ) : Type 0 where
  pub from : 20 ≤ at
  pub within : at ≤ length bytes
  pub goes : (items : List Item) (rest : List ℕ) → Splits (drop at bytes) items rest → Covers own bytes begin facts asks s items rest

pub begins : (own bytes : List ℕ) (begin : Standing) → 20 ≤ length bytes → Stands own bytes begin [] [] begin 20
begins own bytes begin long = record { from = omega arith; within = long; goes = λ items rest x. record { all = items; splits = x; tells = refl; wants = refl; leaves = refl } }

-- a submessage more
pub goes_on : (own bytes : List ℕ) (begin : Standing) (facts more : List Fact) (asks further : List FragAsk) (s next : Standing) (at n : ℕ) (fact : Option Fact) (ask : Option FragAsk)
    → Stands own bytes begin facts asks s at → Goes own (drop at bytes) s next n fact ask → more ≡ facts ++ option_to_list fact → further ≡ asks ++ option_to_list ask
    → Stands own bytes begin more further next (at + n)
goes_on own bytes begin facts more asks further s next at n fact ask h g adds wanted = record {
  from = omega (arith, h.from);
  within = omega (arith, h.within, g.within, length-drop at bytes);
  goes = λ items rest y.
      let behind : Splits (drop n (drop at bytes)) items rest = subst (λ (t : List ℕ). Splits t items rest) (sym (drop-drop n at bytes)) y in
      let k = h.goes (g.item ∷ items) rest (n, g.spells, behind) in
      record {
        all = k.all;
        splits = k.splits;
        tells =
            k.tells
            ∙ ap (λ (x : Step). facts ++ (option_to_list x.fact ++ (told_of own x.next items).facts)) g.does
            ∙ sym (append_assoc facts (option_to_list fact) (told_of own next items).facts)
            ∙ ap (λ (t : List Fact). t ++ (told_of own next items).facts) (sym adds);
        wants =
            k.wants
            ∙ ap (λ (x : Step). asks ++ (option_to_list x.ask ++ (told_of own x.next items).asks)) g.does
            ∙ sym (append_assoc asks (option_to_list ask) (told_of own next items).asks)
            ∙ ap (λ (t : List FragAsk). t ++ (told_of own next items).asks) (sym wanted);
        leaves = k.leaves ∙ ap (λ (x : Step). (told_of own x.next items).last) g.does;
      };
}

-- nothing is left
pub ends_whole : (own bytes : List ℕ) (begin : Standing) (facts : List Fact) (asks : List FragAsk) (s : Standing) (at : ℕ) → Stands own bytes begin facts asks s at → length bytes ≤ at
    → Says own bytes begin (record { facts = facts; end = Whole; asks = asks }) s.samples
ends_whole own bytes begin facts asks s at h past =
    let none : drop at bytes ≡ [] = drop_all at bytes past in
    let g = h.goes [] [] none in
    record {
      items = g.all;
      rest = [];
      splits = g.splits;
      ends = refl;
      facts = sym (append-nil facts) ∙ sym g.tells;
      asks = sym (append-nil asks) ∙ sym g.wants;
      leaves = sym (ap (λ (x : Standing). x.samples) g.leaves);
    }

-- a faulty submessage
pub stops : (own bytes : List ℕ) (begin : Standing) (facts : List Fact) (asks : List FragAsk) (s : Standing) (at place : ℕ) (kind : SubKind) (left : List Opened) → Stands own bytes begin facts asks s at → at < length bytes
    → ItemBreaks (drop at bytes) place kind → left ≡ s.samples → Says own bytes begin (record { facts = facts; end = Stopped (at + place) kind; asks = asks }) left
stops own bytes begin facts asks s at place kind left h more b left_is =
    let g = h.goes [] (drop at bytes) refl in
    let len : length (drop at bytes) ≡ length bytes - at = length-drop at bytes in
    record {
      items = g.all;
      rest = drop at bytes;
      splits = g.splits;
      ends = record { more = omega (arith, len, more); place = place; breaks = b; at_is = omega (arith, len, more) };
      facts = sym (append-nil facts) ∙ sym g.tells;
      asks = sym (append-nil asks) ∙ sym g.wants;
      leaves = left_is ∙ sym (ap (λ (x : Standing). x.samples) g.leaves);
    }

-- ---- what one submessage does

-- a HEARTBEAT_FRAG as it was read
pub beat_read : (bytes body : List ℕ) (n flags : ℕ) (little : Bool) (b : FragBeat) → flags ≡ flags_of bytes → body ≡ body_of bytes n → little ≡ has flags 0x01 → Ok b ≡ beat_at little body
    → beat_at (has (flags_of bytes) 0x01) (body_of bytes n) ≡ Ok b
beat_read bytes body n flags little b flags_is body_is little_is read = rw (← flags_is, ← body_is, ← little_is) (sym read)

pub beat_idle : (own bytes : List ℕ) (s : Standing) (n : ℕ) (b : FragBeat) → SubSpells bytes (Other 0x13) n → n ≤ length bytes → beat_at (has (flags_of bytes) 0x01) (body_of bytes n) ≡ Ok b → is_for own s.context ≡ false
    → Goes own bytes s s n None None
beat_idle own bytes s n b framed within read others = record { item = beat b; spells = (framed, read); within = within; does = rw (others) refl }

pub beat_asks : (own bytes : List ℕ) (s : Standing) (n : ℕ) (b : FragBeat) (ask : Option FragAsk) → SubSpells bytes (Other 0x13) n → n ≤ length bytes → beat_at (has (flags_of bytes) 0x01) (body_of bytes n) ≡ Ok b → is_for own s.context ≡ true
    → ask ≡ asked_in (s.context.source ++ b.writer) b s.samples → Goes own bytes s s n None ask
beat_asks own bytes s n b ask framed within read ours ask_is = record { item = beat b; spells = (framed, read); within = within; does = rw (ours, ask_is) refl }

pub pieces_idle : (own bytes : List ℕ) (s : Standing) (n : ℕ) (f : Fragments) → SubSpells bytes (Other 0x16) n → n ≤ length bytes → FragmentsSpell (flags_of bytes) (body_of bytes n) f → is_for own s.context ≡ false
    → Goes own bytes s s n None None
pieces_idle own bytes s n f framed within read others = record { item = pieces f; spells = (framed, read); within = within; does = rw (others) refl }

pub pieces_taken : (own bytes : List ℕ) (c : Context) (old new : List Opened) (n : ℕ) (f : Fragments) (fact : Option Fact) → SubSpells bytes (Other 0x16) n → n ≤ length bytes → FragmentsSpell (flags_of bytes) (body_of bytes n) f
    → is_for own c ≡ true → made new fact ≡ with_pieces (c.source ++ f.head.writer) c.time f old → Goes own bytes (record { context = c; samples = old }) (record { context = c; samples = new }) n fact None
pieces_taken own bytes c old new n f fact framed within read ours told = record { item = pieces f; spells = (framed, read); within = within; does = rw (ours, ← told) refl }

pub plain_told : (own bytes : List ℕ) (c d : Context) (samples : List Opened) (n : ℕ) (s : Sub) (fact : Option Fact) → SubSpells bytes s n → n ≤ length bytes → is_other 0x16 s ≡ false → is_other 0x13 s ≡ false → d ≡ after c s → fact ≡ told own c s
    → Goes own bytes (record { context = c; samples = samples }) (record { context = d; samples = samples }) n fact None
plain_told own bytes c d samples n s fact framed within no_pieces no_beat after_is told_is = record { item = plain s; spells = (framed, rw (no_pieces, no_beat) refl); within = within; does = rw (after_is, told_is) refl }

-- ---- the place of a fault

short_body : (id flags : ℕ) (len body after : List ℕ) → length body ≤ length (id ∷ flags ∷ (len ++ (body ++ after)))
short_body id flags len body after = omega (arith, length-append len (body ++ after), length-append body after, length-append (id ∷ flags ∷ []) (len ++ (body ++ after)))

frame_short : (bytes : List ℕ) (f : Framed) → Frames bytes f → length f.body ≤ length bytes
frame_short bytes f x = subst (λ (t : List ℕ). length f.body ≤ length t) (sym x.heads.parts) (short_body f.id f.flags (octets (has f.flags 0x01) w16 x.len) f.body x.after)

head_place : (bytes : List ℕ) (at : ℕ) (kind : SubKind) → HeadBreaks bytes at kind → at ≤ 4
head_place bytes at Cut (inl x) = omega (arith, x.1)
head_place bytes at Cut (inr x) = omega (arith, x.1)
head_place bytes at BothDataAndKey x = omega (arith, x.1)
head_place bytes at BadNumber x = absurd x
head_place bytes at BadSet x = absurd x
head_place bytes at BadRange x = absurd x
head_place bytes at (InList kind) x = absurd x
head_place bytes at BadOffset x = absurd x

pub sub_place : (bytes : List ℕ) (at : ℕ) (kind : SubKind) → SubBreaks bytes at kind → at ≤ 4 + length bytes
sub_place bytes at kind (inl x) = omega (arith, head_place bytes at kind x)
sub_place bytes at kind (inr x) = omega (arith, x.place, frame_short bytes x.frame x.framed)
