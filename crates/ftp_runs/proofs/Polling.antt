-- Lemmas on polls of a call: what isn't made, what goes on, and what is carried out at once.
use Rattle.std.proofs.Common.{◌≡◌, [], ◌∷◌, Bool, true, false, Some, inl, inr, ◌⊎◌, refl, ap, sym, ◌∙◌, subst}
use Rattle.futures.specs.declared.task.Poll.{Poll}
use Rattle.futures.specs.declared.task.Poll.TheVariants.{Ready, Pending}
use Rattle.ftp_control.specs.Channel.{IsSound}
use Rattle.ftp_transport.specs.Memory.{IsGiven}
use Rattle.ftp_transport.specs.Told.{EndsAsTold}
use Rattle.ftp_calls.specs.declared.call.Answer.{Answer}
use Rattle.ftp_calls.specs.declared.call.Call.{Call}
use Rattle.ftp_calls.specs.Exchanges.{is_local, row_of}
use Rattle.ftp_calls.specs.declared.exchange.Turn.TheVariants.{First}
use Rattle.ftp_dialogue.specs.declared.stage.Stage.{Stage}
use Rattle.ftp_dialogue.specs.Coding.{Coding}
use Rattle.ftp_dialogue.specs.Link.{over_memory, plain}
use Rattle.ftp_dialogue.specs.Promises.{HasFault, IsFault}
use Rattle.ftp_dialogue.specs.State.{SessionValue}
use Rattle.ftp_runs.specs.Following.{PollsHere}
use Rattle.ftp_dialogue.specs.Steps.Polls.{MayPollFrom, PollsOn, RefusesFrom, StageIn, StartsTo, entered_at, entered_state, entered_tree, is_first}
use Rattle.ftp_dialogue.specs.Steps.Moving.{CarriesOut, PollsTo}
use Rattle.ftp_dialogue.specs.Steps.Stages.{StageOf, begun_at, remaining}
use Rattle.ftp_dialogue.proofs.CarryingLemmas.{carried_apart, carried_plays, refused_so, row_answer}
use Rattle.ftp_dialogue.proofs.DrainingLemmas.{taken_unrefused}
use Rattle.ftp_dialogue.proofs.Sorts.{stage_no_local}
use Rattle.ftp_dialogue.specs.Link.{Builds}

-- the control connection is as it was
apart_end : (v w : SessionValue) → w.channel ≡ v.channel → EndsAsTold v.channel.ended w.channel.ended v.channel.told
apart_end v w same e = inl (sym (ap (λ c. c.ended) same) ∙ e)

one_fault : (v w : SessionValue) (answer : Answer) → (w.channel.failed ≡ true → (v.channel.failed ≡ true) ⊎ IsFault answer) → w.channel.failed ≡ true → (v.channel.failed ≡ true) ⊎ HasFault (answer ∷ [])
one_fault v w answer fails failed = go (fails failed)
  where
    go : (v.channel.failed ≡ true) ⊎ IsFault answer → (v.channel.failed ≡ true) ⊎ HasFault (answer ∷ [])
    go (inl was) = inl was
    go (inr fault) = inr (inl fault)

ready_clash : {A : Type 0} (answer : Answer) → Ready answer ≡ Pending → A
ready_clash answer is = cc

module _ (builds : Builds) (coding : Coding) (call : Call) (stage stage' : Stage) (v w : SessionValue) where
  -- a call that is refused
  refused_here : (answer : Answer) → (first : Bool) → is_first stage ≡ first → RefusesFrom first (Unit {0}) call v w answer → IsGiven w.channel.told → IsSound (Unit {0}) w.channel → PollsHere builds coding call stage stage' v w (Ready answer)
  refused_here answer true first refused given sound =
      let so = refused_so (plain builds) (Unit {0}) coding call v w answer refused in
      record {
        refused = λ is none. (answer, refl, refused);
        lost = λ on failed. (let clash : true ≡ false = sym first ∙ on in cc);
        polls = λ may. (let M : Bool → Type 0 = λ b. MayPollFrom b call v in absurd (taken_unrefused (Unit {0}) call v w answer (subst M first may) refused));
        rests = λ waits. ready_clash answer waits;
        begun = λ waits. ready_clash answer waits;
        fails = one_fault v w answer so.fails;
        left_at = λ waits. ready_clash answer waits;
        end = apart_end v w so.channel;
        given = given;
        sound = sound;
        stays = λ failed. (ap (λ c. c.failed) so.channel ∙ failed, ap (λ c. c.told.failures) so.channel, (inl so.refusal_is, tt));
        starts = λ abroad. (let R : Bool → Type 0 = λ b. RefusesFrom b (Unit {0}) call v w answer in inl (answer, refl, subst R (sym first) refused));
        carries = λ local at. (answer, refl, inl refused);
      }
  refused_here answer false on refused given sound =
      record {
        refused = λ is none. (let clash : true ≡ false = sym is ∙ on in cc);
        lost = λ is failed. (ap Ready refused.1, refused.2);
        polls = λ may. (let M : Bool → Type 0 = λ b. MayPollFrom b call v in let clash : true ≡ false = sym refused.0 ∙ subst M on may in cc);
        rests = λ waits. ready_clash answer waits;
        begun = λ waits. ready_clash answer waits;
        fails = λ failed. inl refused.0;
        left_at = λ waits. ready_clash answer waits;
        end = apart_end v w (ap (λ x. x.channel) refused.2);
        given = given;
        sound = sound;
        stays = λ failed. (ap (λ x. x.channel.failed) refused.2 ∙ failed, ap (λ x. x.channel.told.failures) refused.2, (inl (inl refused.1), tt));
        starts = λ abroad. (let R : Bool → Type 0 = λ b. RefusesFrom b (Unit {0}) call v w answer in inl (answer, refl, subst R (sym on) refused));
        carries = λ local at. (let clash : true ≡ false = sym at ∙ on in cc);
      }

  on_here : (result : Poll Answer) → is_local call ≡ false → PollsOn (over_memory builds) (Unit {0}) coding call stage stage' v w result → (result ≡ Pending → StageOf call stage') → IsGiven w.channel.told → IsSound (Unit {0}) w.channel → PollsHere builds coding call stage stage' v w result
  on_here result abroad on stage_of given sound = record {
    refused = λ first none. (let M : Bool → Type 0 = λ b. MayPollFrom b call v in absurd (none (subst M first on.may)));
    lost = λ later failed. (let clash : true ≡ false = sym failed ∙ on.going in cc);
    polls = λ may. on.polls;
    rests = on.rests;
    begun = on.begun;
    fails = on.fails;
    left_at = stage_of;
    end = on.end tt tt;
    given = given;
    sound = sound;
    stays = λ failed. (let clash : true ≡ false = sym failed ∙ on.going in cc);
    starts = λ abroad. inr on;
    carries = λ local at. (let clash : true ≡ false = sym local ∙ abroad in cc);
  }

  pub started_here : (result : Poll Answer) → is_local call ≡ false → StartsTo (over_memory builds) (Unit {0}) coding call stage stage' v w result → (result ≡ Pending → StageOf call stage') → IsGiven w.channel.told → IsSound (Unit {0}) w.channel → PollsHere builds coding call stage stage' v w result
  started_here result abroad (inl refused) stage_of given sound =
      let P : Poll Answer → Type 0 = λ r. PollsHere builds coding call stage stage' v w r in
      subst P (sym refused.1) (refused_here refused.0 (is_first stage) refl refused.2 given sound)
  started_here result abroad (inr on) stage_of given sound = on_here result abroad on stage_of given sound

  -- a call that is carried builds out at once
  pub carried_here : (answer : Answer) → is_local call ≡ true → StageIn (Some call) stage → CarriesOut (Unit {0}) call v w answer → IsGiven w.channel.told → IsSound (Unit {0}) w.channel → PollsHere builds coding call stage stage' v w (Ready answer)
  carried_here answer local (inl stage_of) carries given sound = let clash : true ≡ false = sym local ∙ stage_no_local call stage stage_of in cc
  carried_here answer local (inr at) (inl refused) given sound = refused_here answer true (ap is_first at) refused given sound
  carried_here answer local (inr at) (inr made) given sound =
      let apart = carried_apart (Unit {0}) call v w answer made in
      let played = carried_plays (over_memory builds) coding call v w answer made in
      let P : Stage → Type 0 = λ s. PollsTo (over_memory builds) (begun_at s) (entered_tree coding call s v.state) (remaining coding call (entered_state call s v.state) stage') (entered_at call s v) w (Ready answer) in
      record {
        refused = λ first none. absurd (none made.going);
        lost = λ on failed. (let clash : true ≡ false = sym (ap is_first at) ∙ on in cc);
        polls = λ may. subst P (sym at) (made.last, played, made.lets_go);
        rests = λ waits. ready_clash answer waits;
        begun = λ waits. ready_clash answer waits;
        fails = λ failed. inl (sym (ap (λ c. c.failed) apart) ∙ failed);
        left_at = λ waits. ready_clash answer waits;
        end = apart_end v w apart;
        given = given;
        sound = sound;
        stays = λ failed. (ap (λ c. c.failed) apart ∙ failed, ap (λ c. c.told.failures) apart, (inr (row_answer (Unit {0}) (row_of call First) v made.last answer made.does), tt));
        starts = λ abroad. (let clash : true ≡ false = sym local ∙ abroad in cc);
        carries = λ local at. (answer, refl, inr made);
      }
