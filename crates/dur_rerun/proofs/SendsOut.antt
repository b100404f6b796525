-- Messages go out one after the other.
use Rattle.std.proofs.Common.{◌≡◌, ℕ, ◌+◌, ◌-◌, Bool, true, false, ◌++◌, List, [], ◌∷◌, ◌<◌, map, get_or, length, take, drop, ◌∙◌, refl, sym, ap, subst, arith, Result, Ok, Err, OnOk, OnErr}
use Rattle.std.specs.Int.{w16, w32, w64, to_le_bytes}
use Rattle.std.proofs.lemmas.List.{append-nil, length-append, take_at, map_more}
use Rattle.std.proofs.lemmas.List.Concat.{flat_map-append}
use Rattle.dur_outside.specs.World.{World}
use Rattle.dur_outside.proofs.Runs.{still}
use Rattle.dur_journal.specs.declared.state.Journal.{Journal}
use Rattle.dur_capture.specs.declared.record.Record.{Record}
use Rattle.dur_capture.specs.Capture.{record_text}
use Rattle.dur_hub.specs.declared.reply.Ack.{Ack}
use Rattle.rtps_message.specs.Written.{message, acknack_subs, IsWritten}
use Rattle.dur_rerun.specs.Rerun.Saying.{IsFront, Says}
use Rattle.dur_rerun.specs.Rerun.Replies.{records_text, ack_message}
use Rattle.rel_writer.specs.Sessions.{Sending, IsData, IsBeat, beaten, is_asked}
use Rattle.rel_writer.specs.Turns.{AreData, asked_from}
use Rattle.dur_base.specs.NumberSets.{NumberSet}
use Rattle.std.specs.Prelude.{suc, zero, if◌then◌else◌}
use Rattle.dur_rerun.specs.Rerun.Steps.{IsDataIf, IsBeatIf, AreDataOf, IsAck, AreFirst}
use Rattle.dur_rerun.specs.Rerun.Sending.{GoOut, Stays}
use Rattle.dur_rerun.proofs.SaysThrough.{says_both}

pub ok_of : {T E : Type 0} (r : Result T E) (X : Type 0) → X → OnOk r X
ok_of (Ok t) X x = x
ok_of (Err e) X x = tt

pub err_of : {T E : Type 0} (r : Result T E) (X : Type 0) → X → OnErr r X
err_of (Ok t) X x = tt
err_of (Err e) X x = x

pub says_nothing : {D : Type 0} (E : Type 0) (journal : Journal D) (w : World) → Says {E = E} journal journal w w [] (Ok _)
says_nothing E journal w = record {
  run = still w (IsFront [] w.now);
  all = ap (λ (x : List ℕ). record w.now { written = x }) (sym (append-nil w.now.written));
  stands = λ plan k is. is;
}

texts-append : (moment port : ℕ) (xs ys : List (List ℕ)) → records_text moment port (xs ++ ys) ≡ records_text moment port xs ++ records_text moment port ys
texts-append moment port xs ys =
    flat_map-append (λ (bytes : List ℕ). record_text (record { moment = moment; port = port; bytes = bytes })) xs ys

-- the front of a place at which a record was written
pub record_sent : (moment port size : ℕ) (bytes out new : List ℕ) → size ≡ 14 + length bytes
    → new ≡ record_text (record { moment = moment; port = port; bytes = bytes }) ++ drop size out → take size new ≡ records_text moment port (bytes ∷ [])
record_sent moment port size bytes out new count text =
    let r : Record = record { moment = moment; port = port; bytes = bytes } in
    let head : List ℕ = to_le_bytes w64 moment ++ to_le_bytes w16 port ++ to_le_bytes w32 (length bytes) in
    let len : length (record_text r) ≡ size = length-append head bytes ∙ sym count in
    ap (take size) text ∙ take_at (record_text r) (drop size out) size len ∙ sym (append-nil (record_text r))

-- these went out, and no call failed
abbrev pub SoFar : {D : Type 0} → Type 0 → Journal D → Journal D → World → World → ℕ → ℕ → (List (List ℕ) → Type 0) → Type 0
SoFar tells old new w v moment port Are = GoOut {E = Unit {0}} tells old new w v moment port (Ok tt) Are Are

-- nothing went out yet
pub none_yet : {D : Type 0} (tells : Type 0) (journal : Journal D) (w : World) (moment port : ℕ) (Are : List (List ℕ) → Type 0) → Are []
    → SoFar tells journal journal w w moment port Are
none_yet tells journal w moment port Are are = record {
  messages = [];
  all = are;
  first = tt;
  says = λ told. says_nothing (Unit {0}) journal w;
}

pub so_far : {D E : Type 0} (tells : Type 0) (old new : Journal D) (w v : World) (moment port : ℕ) (x : Unit {0}) (Are Begin : List (List ℕ) → Type 0)
    → GoOut {E = E} tells old new w v moment port (Ok x) Are Begin → SoFar tells old new w v moment port Are
so_far tells old new w v moment port x Are Begin went = record {
  messages = went.messages;
  all = went.all;
  first = tt;
  says = λ told.
      let said = went.says told in record { run = said.run; all = said.all; stands = said.stands };
}

-- one message or none, whatever became of it
pub goes_once : {D E : Type 0} (tells : Type 0) (old new : Journal D) (w v : World) (moment port : ℕ) (result : Result (Unit {0}) E)
    (Are Begin : List (List ℕ) → Type 0) (messages : List (List ℕ)) → Are messages → Begin messages
    → (tells → Says old new w v (records_text moment port messages) result) → GoOut tells old new w v moment port result Are Begin
goes_once tells old new w v moment port result Are Begin messages are begin says = record {
  messages = messages;
  all = ok_of result (Are messages) are;
  first = err_of result (Begin messages) begin;
  says = says;
}

module _ {D E : Type 0} (tells : Type 0) (old mid new : Journal D) (w u v : World) (moment port : ℕ) (Are Begin First More MoreBegin : List (List ℕ) → Type 0) where
  says_more : (result : Result (Unit {0}) E) (xs ys : List (List ℕ)) → Says {E = Unit {0}} old mid w u (records_text moment port xs) (Ok tt)
      → Says mid new u v (records_text moment port ys) result → Says old new w v (records_text moment port (xs ++ ys)) result
  says_more result xs ys before behind =
      subst (λ (text : List ℕ). Says old new w v text result) (sym (texts-append moment port xs ys))
      (says_both old mid new w u v (records_text moment port xs) (records_text moment port ys) result before.all before.run before.stands behind)

  -- these, and then those
  pub goes_on : (result : Result (Unit {0}) E) → SoFar tells old mid w u moment port First → GoOut tells mid new u v moment port result More MoreBegin
      → ((xs ys : List (List ℕ)) → First xs → More ys → Are (xs ++ ys)) → ((xs ys : List (List ℕ)) → First xs → MoreBegin ys → Begin (xs ++ ys))
      → GoOut tells old new w v moment port result Are Begin
  goes_on (Ok x) before behind joins begins = record {
    messages = before.messages ++ behind.messages;
    all = joins before.messages behind.messages before.all behind.all;
    first = tt;
    says = λ told. says_more (Ok x) before.messages behind.messages (before.says told) (behind.says told);
  }
  goes_on (Err e) before behind joins begins = record {
    messages = before.messages ++ behind.messages;
    all = tt;
    first = begins before.messages behind.messages before.all behind.first;
    says = λ told. says_more (Err e) before.messages behind.messages (before.says told) (behind.says told);
  }

-- a failure by another name
pub goes_err : {D E F : Type 0} (tells : Type 0) (old new : Journal D) (w v : World) (moment port : ℕ) (e : E) (f : F) (Are Begin Are' Begin' : List (List ℕ) → Type 0)
    → GoOut tells old new w v moment port (Err e) Are Begin → ((xs : List (List ℕ)) → Begin xs → Begin' xs) → GoOut tells old new w v moment port (Err f) Are' Begin'
goes_err tells old new w v moment port e f Are Begin Are' Begin' went begins = record {
  messages = went.messages;
  all = tt;
  first = begins went.messages went.first;
  says = λ told. let said = went.says told in record { run = said.run; all = tt; stands = said.stands };
}

-- nothing goes out
pub goes_nowhere : {D : Type 0} (E : Type 0) (tells : Type 0) (journal : Journal D) (w : World) (moment port : ℕ) (Are Begin : List (List ℕ) → Type 0) → Are []
    → GoOut {E = E} tells journal journal w w moment port (Ok _) Are Begin
goes_nowhere E tells journal w moment port Are Begin are = record {
  messages = [];
  all = are;
  first = tt;
  says = λ told. says_nothing E journal w;
}

-- ---- DATA

pub no_data : (asked : Bool) (s : Sending) (k : ℕ) → asked ≡ false → IsDataIf asked s k []
no_data asked s k is = subst (λ (b : Bool). IsDataIf b s k []) (sym is) refl

pub one_data : (asked : Bool) (s : Sending) (k : ℕ) (bytes : List ℕ) → asked ≡ true → IsData s (k - 1) bytes → IsDataIf asked s k (bytes ∷ [])
one_data asked s k bytes is written =
    subst (λ (b : Bool). IsDataIf b s k (bytes ∷ [])) (sym is) (bytes, [], refl, written, refl)

pub no_beat : (asked : Bool) (s : Sending) → asked ≡ false → IsBeatIf asked s s []
no_beat asked s is = subst (λ (b : Bool). IsBeatIf b s s []) (sym is) (refl, refl)

pub one_beat : (asked : Bool) (s t : Sending) (bytes : List ℕ) → asked ≡ true → IsBeat s bytes → t ≡ beaten s → IsBeatIf asked s t (bytes ∷ [])
one_beat asked s t bytes is written after =
    subst (λ (b : Bool). IsBeatIf b s t (bytes ∷ [])) (sym is) (bytes, refl, written, after)

-- the DATA of some numbers and then of others
pub data_join : (s : Sending) (ks js : List ℕ) (xs ys : List (List ℕ)) → AreData s ks xs → AreData s js ys → AreData s (ks ++ js) (xs ++ ys)
data_join s [] js xs ys first second = subst (λ (x : List (List ℕ)). AreData s js (x ++ ys)) (sym first) second
data_join s (k ∷ ks) js xs ys (bytes, more, is, written, rest) second =
    (bytes, more ++ ys, ap (λ (x : List (List ℕ)). x ++ ys) is, written, data_join s ks js more ys rest second)

abbrev pub asked_one : Bool → ℕ → List ℕ
asked_one b k = if b then k ∷ [] else []

asked_join : (b : Bool) (k : ℕ) (ks js : List ℕ) → (if b then k ∷ (ks ++ js) else ks ++ js) ≡ (if b then k ∷ ks else ks) ++ js
asked_join true k ks js = refl
asked_join false k ks js = refl

-- one number more
asked_on : (f : ℕ → Bool) (k n : ℕ) → asked_from f k (suc n) ≡ asked_from f k n ++ asked_one (f (k + n)) (k + n)
asked_on f k zero = ap (λ (j : ℕ). asked_one (f j) j) (omega arith)
asked_on f k (suc n) =
    ap (λ (ks : List ℕ). if f k then k ∷ ks else ks)
    (asked_on f (k + 1) n ∙ ap (λ (j : ℕ). asked_from f (k + 1) n ++ asked_one (f j) j) (omega arith))
    ∙ asked_join (f k) k (asked_from f (k + 1) n) (asked_one (f (k + suc n)) (k + suc n))

pub data_more : (s : Sending) (asked : NumberSet) (m k : ℕ) (b : Bool) (xs ys : List (List ℕ)) → k ≡ asked.base + m → b ≡ is_asked s asked (asked.base + m)
    → AreDataOf s asked m xs → IsDataIf b s k ys → AreDataOf s asked (m + 1) (xs ++ ys)
data_more s asked m k b xs ys is_k is_b before one =
    let f = is_asked s asked in
    let here : IsDataIf (f (asked.base + m)) s (asked.base + m) ys =
    subst (λ (j : ℕ). IsDataIf (f (asked.base + m)) s j ys) is_k (subst (λ (c : Bool). IsDataIf c s k ys) is_b one) in
    let so : AreData s (asked_from f asked.base m ++ asked_one (f (asked.base + m)) (asked.base + m)) (xs ++ ys) =
    data_join s (asked_from f asked.base m) (asked_one (f (asked.base + m)) (asked.base + m)) xs ys before here in
    let one_more : suc m ≡ m + 1 = omega arith in
    let grown : asked_from f asked.base m ++ asked_one (f (asked.base + m)) (asked.base + m) ≡ asked_from f asked.base (m + 1) =
    sym (asked_on f asked.base m) ∙ ap (λ (n : ℕ). asked_from f asked.base n) one_more in
    subst (λ (ks : List ℕ). AreData s ks (xs ++ ys)) grown so

pub data_all : (s : Sending) (asked : NumberSet) (m : ℕ) (xs : List (List ℕ)) → m ≡ 256 → AreDataOf s asked m xs → AreDataOf s asked 256 xs
data_all s asked m xs is are = subst (λ (n : ℕ). AreDataOf s asked n xs) is are

-- all went out
pub all_out : {D : Type 0} (E : Type 0) (tells : Type 0) (old new : Journal D) (w v : World) (moment port : ℕ) (First Are Begin : List (List ℕ) → Type 0)
    → SoFar tells old new w v moment port First → ((xs : List (List ℕ)) → First xs → Are xs) → GoOut {E = E} tells old new w v moment port (Ok _) Are Begin
all_out E tells old new w v moment port First Are Begin went are = record {
  messages = went.messages;
  all = are went.messages went.all;
  first = tt;
  says = λ told.
      let said = went.says told in record { run = said.run; all = said.all; stands = said.stands };
}

pub stays_on : {D : Type 0} (tells : Type 0) (old mid new : Journal D) (u v : World) (d e f : ℕ) → Stays tells old mid u d e → Stays tells mid new v e f
    → Stays tells old new v d f
stays_on tells old mid new u v d e f first second = record {
  ready = second.ready;
  same = second.same ∙ ap (λ (j : Journal _). record j { disk = new.disk }) first.same;
  keeps = second.keeps ∙ first.keeps;
}

-- what went out is also this
pub goes_as : {D E : Type 0} (tells : Type 0) (old new : Journal D) (w v : World) (moment port : ℕ) (result : Result (Unit {0}) E) (Are Begin Are' Begin' : List (List ℕ) → Type 0)
    → GoOut tells old new w v moment port result Are Begin → ((xs : List (List ℕ)) → Are xs → Are' xs) → ((xs : List (List ℕ)) → Begin xs → Begin' xs)
    → GoOut tells old new w v moment port result Are' Begin'
goes_as tells old new w v moment port (Ok x) Are Begin Are' Begin' went are begins =
    record { messages = went.messages; all = are went.messages went.all; first = tt; says = went.says }
goes_as tells old new w v moment port (Err e) Are Begin Are' Begin' went are begins =
    record { messages = went.messages; all = tt; first = begins went.messages went.first; says = went.says }

-- ---- acknowledgements

pub ack_written : (own reader from to : List ℕ) (set : NumberSet) (is_final : Bool) (count n : ℕ) (old new : List ℕ) → length own ≡ 12 → from ≡ own ++ reader
    → IsWritten old new (take 12 from) (acknack_subs from to set is_final count) n
    → take n new ≡ message own (acknack_subs (own ++ reader) to set is_final count)
ack_written own reader from to set is_final count n old new long is written =
    let own_is : take 12 (own ++ reader) ≡ own = take_at own reader 12 long in
    ap (take n) written.text ∙ take_at (message (take 12 from) (acknack_subs from to set is_final count)) (drop n old) n (sym written.len)
    ∙ ap (λ (g : List ℕ). message (take 12 g) (acknack_subs g to set is_final count)) is
    ∙ ap (λ (p : List ℕ). message p (acknack_subs (own ++ reader) to set is_final count)) own_is

pub ack_more : (own : List ℕ) (acks : List Ack) (i : ℕ) (a : Ack) (xs ys : List (List ℕ)) → i < length acks → a ≡ get_or acks i a
    → AreFirst own acks i xs → IsAck own a ys → AreFirst own acks (i + 1) (xs ++ ys)
ack_more own acks i a xs ys lt is first one =
    ap (λ (zs : List (List ℕ)). zs ++ ys) first ∙ ap (λ (zs : List (List ℕ)). map (ack_message own) (take i acks) ++ zs) one
    ∙ ap (λ (b : Ack). map (ack_message own) (take i acks) ++ ack_message own b ∷ []) is ∙ sym (map_more (ack_message own) acks i a lt)
