-- What a payload tells, and what a DATA announces by it.
use Rattle.std.proofs.Common.{◌≡◌, ℕ, ◌<◌, ◌≤◌, Bool, true, false, List, ◌++◌, length, take, drop, if◌then◌else◌, Option, Some, None, refl, sym, ap, subst, ◌∙◌, arith, inl, inr}
use Rattle.std.specs.Prelude.{IfSome}
use Rattle.std.specs.Str.{bytes_eq}
use Rattle.std.proofs.lemmas.Slice.Eq.{bytes_eq-Decides}
use Rattle.std.proofs.lemmas.List.{take_at, drop_at, take-append-drop, length-append, length-take, length-drop}
use Rattle.dur_base.specs.declared.sample.Raw.{Raw}
use Rattle.dur_qos.specs.declared.plan.Plan.{Plan}
use Rattle.dur_qos.specs.declared.plan.Topic.{Topic}
use Rattle.rtps_discovery.specs.declared.announcement.Announcement.{Announcement}
use Rattle.rtps_discovery.specs.declared.list.Listed.{Listed}
use Rattle.rtps_discovery.specs.declared.source.Source.{Source}
use Rattle.rtps_discovery.specs.declared.source.Source.TheVariants.{Participants, Publications, Subscriptions}
use Rattle.rtps_discovery.specs.Sources.{id_of, source_of}
use Rattle.rtps_discovery.specs.Lists.{ListTells, PayloadTells, representation, order_of}
use Rattle.rtps_discovery.specs.Announcing.{subject, present, Leaves, Says, Announces}

pub not_none : {A : Type 0} (o : Option A) (x : A) → o ≡ None → o ≡ Some x → ⊥
not_none o x e f = cc

pub same_some : {A : Type 0} (o : Option A) (x y : A) → o ≡ Some x → o ≡ Some y → x ≡ y
same_some o x y e f = cc

length_representation : (little : Bool) → length (representation little) ≡ 2
length_representation true = refl
length_representation false = refl

pub order_again : (little : Bool) → order_of (representation little) ≡ Some little
order_again true = refl
order_again false = refl

-- the one of two tests that holds
of_two : {A : Type 0} (X : A → Type 0) (p q : Bool) (x y r : A) → (if p then Some x else if q then Some y else None) ≡ Some r → (p ≡ true → X x) → (q ≡ true → X y) → X r
of_two X true q x y r e f g = subst X (same_some (Some x) x r refl e) (f refl)
of_two X false true x y r e f g = subst X (same_some (Some y) y r refl e) (g refl)
of_two X false false x y r e f g = absurd (not_none None r refl e)

order_back : (octets : List ℕ) (little : Bool) → order_of octets ≡ Some little → octets ≡ representation little
order_back octets little e =
    of_two (λ b. octets ≡ representation b) (bytes_eq octets (representation false)) (bytes_eq octets (representation true)) false true little e (bytes_eq-Decides octets (representation false)).0 (bytes_eq-Decides octets (representation true)).0

pub front_is : (topics : List Topic) (payload : List ℕ) (l : Listed) (x : PayloadTells topics payload l) → take 2 payload ≡ representation x.little
front_is topics payload l x = ap (take 2) x.parts ∙ take_at (representation x.little) (x.options ++ x.list) 2 (length_representation x.little)

pub list_is : (topics : List Topic) (payload : List ℕ) (l : Listed) (x : PayloadTells topics payload l) → drop 2 (drop 2 payload) ≡ x.list
list_is topics payload l x =
    ap (drop 2) (ap (drop 2) x.parts ∙ drop_at (representation x.little) (x.options ++ x.list) 2 (length_representation x.little)) ∙ drop_at x.options x.list 2 x.two

-- ---- by its parts

pub payload_some : (topics : List Topic) (payload : List ℕ) (little : Bool) (result : Option Listed) → 4 ≤ length payload → order_of (take 2 payload) ≡ Some little → IfSome result (λ l. ListTells topics little (drop 2 (drop 2 payload)) l) → IfSome result (λ l. PayloadTells topics payload l)
payload_some topics payload little None long e h = h
payload_some topics payload little (Some l) long e h = record {
  little = little;
  options = take 2 (drop 2 payload);
  list = drop 2 (drop 2 payload);
  parts = sym (take-append-drop 2 payload) ∙ ap (λ (x : List ℕ). x ++ drop 2 payload) (order_back (take 2 payload) little e) ∙ ap (λ (x : List ℕ). representation little ++ x) (sym (take-append-drop 2 (drop 2 payload)));
  two = omega (arith, length-take 2 (drop 2 payload), length-drop 2 payload);
  tells = h;
}

pub payload_all : (topics : List Topic) (payload list : List ℕ) (little : Bool) (result : Option Listed) → list ≡ drop 2 (drop 2 payload) → order_of (take 2 payload) ≡ Some little → ((l : Listed) → ListTells topics little list l → result ≡ Some l) → (l : Listed) → PayloadTells topics payload l → result ≡ Some l
payload_all topics payload list little result is e h l x =
    let same : x.little ≡ little = same_some (order_of (take 2 payload)) x.little little (ap order_of (front_is topics payload l x) ∙ order_again x.little) e in
    h l (subst (λ (b : Bool). ListTells topics b list l) same (subst (λ (bs : List ℕ). ListTells topics x.little bs l) (sym (is ∙ list_is topics payload l x)) x.tells))

pub payload_short : (topics : List Topic) (payload : List ℕ) (l : Listed) → length payload < 4 → PayloadTells topics payload l → ⊥
payload_short topics payload l short x =
    omega (arith, ap length x.parts, length-append (representation x.little) (x.options ++ x.list), length-append x.options x.list, length_representation x.little, x.two)

pub payload_other : (topics : List Topic) (payload : List ℕ) (l : Listed) → order_of (take 2 payload) ≡ None → PayloadTells topics payload l → ⊥
payload_other topics payload l none x = not_none (order_of (take 2 payload)) x.little none (ap order_of (front_is topics payload l x) ∙ order_again x.little)

-- ---- what a payload that was read tells

-- of what was read, nothing else is told
pub only_read : (topics : List Topic) (bytes payload : List ℕ) (read : Option Listed) → bytes ≡ payload → ((l : Listed) → PayloadTells topics bytes l → read ≡ Some l) → (l : Listed) → PayloadTells topics payload l → read ≡ Some l
only_read topics bytes payload read same all l x = all l (subst (λ (bs : List ℕ). PayloadTells topics bs l) (sym same) x)

-- ---- what leaves

pub leaves_all : (topics : List Topic) (source : Source) (hash : Option (List ℕ)) (payload : List ℕ) (read : Option Listed) (listed : Listed) → hash ≡ None → read ≡ Some listed → ((l : Listed) → PayloadTells topics payload l → read ≡ Some l) → (g : List ℕ) → Leaves topics source hash payload g → subject source listed ≡ Some g
leaves_all topics source None payload read listed none e all g x =
    ap (subject source) (same_some read listed x.0 e (all x.0 x.1)) ∙ x.2
leaves_all topics source (Some key) payload read listed none e all g x = absurd (not_none (Some key) key none refl)

pub leaves_none : (topics : List Topic) (source : Source) (hash : Option (List ℕ)) (payload : List ℕ) (read : Option Listed) → hash ≡ None → read ≡ None → ((l : Listed) → PayloadTells topics payload l → read ≡ Some l) → (g : List ℕ) → Leaves topics source hash payload g → ⊥
leaves_none topics source None payload read none unread all g x = not_none read x.0 unread (all x.0 x.1)
leaves_none topics source (Some key) payload read none unread all g x = not_none (Some key) key none refl

-- ---- what is said

pub says_all : (topics : List Topic) (source : Source) (raw : Raw) (read : Option Listed) (listed : Listed) → raw.status ≡ 0 → read ≡ Some listed → ((l : Listed) → PayloadTells topics raw.payload l → read ≡ Some l) → (a : Announcement) → Says topics source raw a → present source listed ≡ Some a
says_all topics source raw read listed zero e all a (inl x) = ap (present source) (same_some read listed x.1 e (all x.1 x.2)) ∙ x.3
says_all topics source raw read listed zero e all a (inr x) = absurd (x.0 zero)

pub says_none : (topics : List Topic) (source : Source) (raw : Raw) (read : Option Listed) → raw.status ≡ 0 → read ≡ None → ((l : Listed) → PayloadTells topics raw.payload l → read ≡ Some l) → (a : Announcement) → Says topics source raw a → ⊥
says_none topics source raw read zero none all a (inl x) = not_none read x.1 none (all x.1 x.2)
says_none topics source raw read zero none all a (inr x) = x.0 zero

-- ---- who says it

pub source_again : (source : Source) → source_of (id_of source) ≡ Some source
source_again Participants = refl
source_again Publications = refl
source_again Subscriptions = refl

of_three : {A : Type 0} (X : A → Type 0) (p q r : Bool) (x y z s : A) → (if p then Some x else if q then Some y else if r then Some z else None) ≡ Some s → (p ≡ true → X x) → (q ≡ true → X y) → (r ≡ true → X z) → X s
of_three X true q r x y z s e f g h = subst X (same_some (Some x) x s refl e) (f refl)
of_three X false q r x y z s e f g h = of_two X q r y z s e g h

pub source_back : (id : List ℕ) (source : Source) → source_of id ≡ Some source → id ≡ id_of source
source_back id source e =
    of_three (λ t. id ≡ id_of t) (bytes_eq id (id_of Participants)) (bytes_eq id (id_of Publications)) (bytes_eq id (id_of Subscriptions)) Participants Publications Subscriptions source e (bytes_eq-Decides id (id_of Participants)).0 (bytes_eq-Decides id (id_of Publications)).0 (bytes_eq-Decides id (id_of Subscriptions)).0

pub said_of : (plan : Plan) (writer : List ℕ) (raw : Raw) (source : Source) (a : Announcement) → source_of (drop 12 writer) ≡ Some source → Announces plan writer raw a → Says plan.topics source raw a
said_of plan writer raw source a e x =
    subst (λ (s : Source). Says plan.topics s raw a) (same_some (source_of (drop 12 writer)) x.source source (ap source_of x.from ∙ source_again x.source) e) x.says
