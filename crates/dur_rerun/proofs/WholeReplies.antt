-- Acknowledgements, and then what ACKNACKs call for.
use Rattle.std.proofs.Common.{◌≡◌, ◌⊎◌, inl, inr, ⊎_elim, ℕ, List, [], ◌∷◌, ◌++◌, map, take, length, refl, sym, ◌∙◌, ap, append-nil, Result, Ok, Err, arith}
use Rattle.std.proofs.lemmas.List.{take_all}
use Rattle.dur_outside.specs.World.{World}
use Rattle.dur_journal.specs.declared.state.Journal.{Journal}
use Rattle.dur_qos.specs.declared.plan.Plan.{Plan}
use Rattle.dur_hub.specs.declared.event.Event.{Event}
use Rattle.dur_hub.specs.declared.hub.Hub.{Hub}
use Rattle.dur_hub.specs.declared.reply.Ack.{Ack}
use Rattle.dur_hub.specs.Runs.{Run}
use Rattle.dur_hub.specs.Legal.{run_after}
use Rattle.dur_hub.specs.Hubs.{Stands}
use Rattle.dur_rerun.specs.declared.rerun.nacks.Nack.{Nack}
use Rattle.dur_rerun.specs.declared.rerun.replays.Replay.{Replay}
use Rattle.dur_rerun.specs.Rerun.Replies.{Place, Replies, BeginsReplies, NacksCall, NacksBegin, records_text, ack_message}
use Rattle.dur_rerun.specs.Rerun.Reply.{Replied}
use Rattle.dur_rerun.specs.Rerun.Sending.{GoOut}
use Rattle.dur_rerun.specs.Rerun.Steps.{AreAcks, BeginAcks, AreReplied, BeginNacks}

module _ (plan : Plan) (own : List ℕ) (acks : List Ack) (ns : List Nack) (hub hub' : Hub) (replays replays' : List Replay) where
  -- all of them
  abbrev pub AllReplied : List (List ℕ) → Type 0
  AllReplied ms = (zs : List (List ℕ)) × AreReplied plan own ns hub replays hub' replays' zs × (ms ≡ map (ack_message own) acks ++ zs)

  -- the first of them
  abbrev pub BothBegin : List (List ℕ) → Type 0
  BothBegin ms =
      (m : ℕ) × (zs : List (List ℕ)) × (ms ≡ map (ack_message own) (take m acks) ++ zs)
      × ((zs ≡ []) ⊎ ((take m acks ≡ acks) × BeginNacks plan own ns hub replays zs))

  pub all_join : (xs zs : List (List ℕ)) → AreAcks own acks xs → AreReplied plan own ns hub replays hub' replays' zs → AllReplied (xs ++ zs)
  all_join xs zs first second = (zs, second, ap (λ (ys : List (List ℕ)). ys ++ zs) first)

  pub begin_acks : (xs : List (List ℕ)) → BeginAcks own acks xs → BothBegin xs
  begin_acks xs (m, first) = (m, [], first ∙ sym (append-nil (map (ack_message own) (take m acks))), inl refl)

  pub begin_nacks : (xs zs : List (List ℕ)) → AreAcks own acks xs → BeginNacks plan own ns hub replays zs → BothBegin (xs ++ zs)
  begin_nacks xs zs first second =
      let whole : take (length acks) acks ≡ acks = take_all (length acks) acks (omega arith) in
      (length acks, zs, ap (λ (ys : List (List ℕ)). ys ++ zs) (first ∙ ap (map (ack_message own)) (sym whole)), inr (whole, second))

  module _ {D E : Type 0} (tells : Type 0) (port moment : ℕ) (old new : Journal D) (w v : World) where
    pub all_replied : (result : Result (Unit {0}) E) → ((start : Run) (log : List Event) → Stands start log hub → moment ≡ (run_after start log).moment)
        → GoOut tells old new w v moment port result AllReplied BothBegin → Replied tells own port acks ns plan hub hub' replays replays' old new w v result
    all_replied (Ok x) used went = record {
      text = records_text moment port went.messages;
      all = λ start log st plan_is.
          let so = went.all.1 start log st plan_is in
          record {
            more = so.more;
            stands = so.stands;
            snapshots = so.snapshots;
            to = record {
              messages = went.all.0;
              calls = so.to;
              text_is = ap (λ (ms : List (List ℕ)). records_text moment port ms) went.all.2
                  ∙ ap (λ (t : ℕ). records_text t port (map (ack_message own) acks ++ went.all.0)) (used start log st);
            };
          };
      begun = tt;
      says = went.says;
    }
    all_replied (Err e) used went = record {
      text = records_text moment port went.messages;
      all = tt;
      begun = λ start log st plan_is.
          let (m, zs, is, some) = went.first in
          record {
            count = m;
            messages = zs;
            first = ⊎_elim (λ (none : zs ≡ []). inl none) (λ both. inr (both.0, both.1 start log st plan_is)) some;
            text_is = ap (λ (ms : List (List ℕ)). records_text moment port ms) is
                ∙ ap (λ (t : ℕ). records_text t port (map (ack_message own) (take m acks) ++ zs)) (used start log st);
          };
      says = went.says;
    }

-- ---- all messages are the first ones

nacks_begin : (own : List ℕ) (ns : List Nack) (before after : Place) (xs : List (List ℕ)) → NacksCall own ns before xs after → NacksBegin own ns before xs
nacks_begin own [] before after xs (none, same) = none
nacks_begin own (n ∷ ns) before after xs (now, later, mid, first, rest, is) = inr (inr (now, later, mid, first, nacks_begin own ns mid after later rest, is))

pub whole_begins : (own : List ℕ) (port : ℕ) (acks : List Ack) (ns : List Nack) (before after : Place) (text : List ℕ) → Replies own port acks ns before text after
    → BeginsReplies own port acks ns before text
whole_begins own port acks ns before after text r =
    let whole : take (length acks) acks ≡ acks = take_all (length acks) acks (omega arith) in
    record {
      count = length acks;
      messages = r.messages;
      first = inr (whole, nacks_begin own ns before after r.messages r.calls);
      text_is = r.text_is
          ∙ ap (λ (l : List Ack). records_text before.run.moment port (map (ack_message own) l ++ r.messages)) (sym whole);
    }
