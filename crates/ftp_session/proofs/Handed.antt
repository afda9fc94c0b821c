-- Lemmas on the look, and on transfers that are handed out.
use Rattle.std.proofs.Common.{◌≡◌, ℕ, Option, Some, None, Bool, true, false, Result, Ok, Err, inl, inr, ◌⊎◌, refl, ap, sym, ◌∙◌, subst}
use Rattle.std.specs.Prelude.{IfOk, ◌&&◌, not, is_none}
use Rattle.futures.specs.declared.task.Poll.{Poll}
use Rattle.std.specs.declared.alloc.AllocError.{AllocError}
use Rattle.ftp_base.specs.declared.types.fault.FtpError.{FtpError}
use Rattle.ftp_base.specs.declared.types.reply.Response.{Response}
use Rattle.ftp_calls.specs.declared.call.Answer.{Answer}
use Rattle.ftp_calls.specs.declared.call.Answer.TheVariants.{Fault, Unit as Done}
use Rattle.ftp_calls.specs.declared.call.Call.{Call}
use Rattle.ftp_calls.specs.declared.call.Call.TheVariants.{Drain}
use Rattle.ftp_transfer.specs.Mark.{End}
use Rattle.ftp_transfer.specs.Transfer.{TransferValue}
use Rattle.ftp_transfer.specs.declared.direction.Direction.{Direction}
use Rattle.ftp_dialogue.specs.Coding.{Coding}
use Rattle.ftp_session.specs.Polled.{HandsOver, OpensNoTransfer}
use Rattle.ftp_session.specs.Handed.{BeginsToSettle, BeginsToSettleIf, BeginsToSettleUnless, BringsToEnd, BringsToEndIf, HandsConnection, TakesBack, TakesBackIf, LooksIf, ReadsSeen, OpensAs, OpensEither, OpensFrom, Opens, OpensReplied, PlaysSeen, Settles, SettlesIf, Strands, SettlesUnless, as_seen, found, is_out, left_if, opens, watches, with_data, with_reply, without_reply}
use Rattle.ftp_dialogue.specs.Link.{Link}
use Rattle.ftp_dialogue.specs.Dialogue.{Expected}
use Rattle.ftp_dialogue.specs.Promises.{GivesFault, IsFault, PlaysAlone}
use Rattle.ftp_dialogue.specs.CatchingUp.{PlaysInStep, PollsReadInStep}
use Rattle.ftp_dialogue.specs.Reading.{drain_told}
use Rattle.ftp_dialogue.specs.Sound.{is_live, is_owed, left_of, next_number, none_left}
use Rattle.ftp_dialogue.specs.declared.state.Owed.{Owed}
use Rattle.ftp_dialogue.specs.declared.state.Owed.TheVariants as owed
use Rattle.ftp_session.specs.Calls.{unit_answer}
use Rattle.ftp_base.specs.declared.types.fault.FtpError.TheVariants.{SessionFailed}
use Rattle.ftp_dialogue.specs.Steps.Moving.{withheld}
use Rattle.ftp_dialogue.proofs.CatchingUpLemmas.{withheld_in_step}
use Rattle.ftp_dialogue.specs.State.{SessionValue}
use Rattle.ftp_session.proofs.OpeningAnswers.{opening_answers}

-- a session that handed out no transfer finds none
pub unmarked : (mark after : Option End) (v : SessionValue) → mark ≡ None → LooksIf (watches mark v) mark after → after ≡ None
unmarked mark after v none looks =
    let P : Option End → Type 0 = λ m. LooksIf (watches m v) m after in
    subst P none looks

-- a call after the look
pub seen_plays : (link : Link) (coding : Coding) (call : Call) (mark after : Option End) (old seen new : SessionValue) (answer : Answer) → LooksIf (watches mark old) mark after → seen ≡ as_seen after old → PlaysInStep link coding call seen new answer → PlaysSeen link coding call mark after old new answer
seen_plays link coding call mark after old seen new answer looks is plays =
    let P : SessionValue → Type 0 = λ v. PlaysInStep link coding call v new answer in
    record { looks = looks; plays = subst P is plays }

-- a polled read after the look
pub seen_reads : (link : Link) (coding : Coding) (codes : Expected) (mark after : Option End) (old seen new : SessionValue) (result : Poll (Result Response FtpError)) → LooksIf (watches mark old) mark after → seen ≡ as_seen after old → PollsReadInStep link coding codes seen new result → ReadsSeen link coding codes mark after old new result
seen_reads link coding codes mark after old seen new result looks is reads =
    let P : SessionValue → Type 0 = λ v. PollsReadInStep link coding codes v new result in
    record { looks = looks; reads = subst P is reads }

-- a look fails no session
pub seen_failing : (after : Option End) (old seen new : SessionValue) (result : Poll (Result Response FtpError)) → seen ≡ as_seen after old → (new.channel.failed ≡ true → (seen.channel.failed ≡ true) ⊎ GivesFault result) → new.channel.failed ≡ true → (old.channel.failed ≡ true) ⊎ GivesFault result
seen_failing after old seen new result is fails failed = go (fails failed)
  where
    same : (b : Bool) → (left_if b old).channel.failed ≡ old.channel.failed
    same true = refl
    same false = refl

    go : (seen.channel.failed ≡ true) ⊎ GivesFault result → (old.channel.failed ≡ true) ⊎ GivesFault result
    go (inl was) = inl (sym (ap (λ v. v.channel.failed) is ∙ same (watches after old && found after)) ∙ was)
    go (inr fault) = inr fault

-- what is made of a call whose arguments were copied
pub copied_plays : (link : Link) (coding : Coding) (call : Result Call AllocError) (copy made : Call) (mark after : Option End) (old new : SessionValue) (answer : Answer) → call ≡ Ok copy → IfOk call (λ c. c ≡ made) → PlaysSeen link coding copy mark after old new answer → PlaysSeen link coding made mark after old new answer
copied_plays link coding call copy made mark after old new answer is same plays =
    let P : Result Call AllocError → Type 0 = λ r. IfOk r (λ c. c ≡ made) in
    let Q : Call → Type 0 = λ c. PlaysSeen link coding c mark after old new answer in
    subst Q (subst P is same) plays

-- what an opening call does after the look, whose arguments were copied
pub opens_by : (link : Link) (coding : Coding) (call : Result Call AllocError) (copy made : Call) (replies : Bool) (direction : Direction) (mark between after former kept : Option End) (old seen new : SessionValue) (result : Result (Option Response × TransferValue) FtpError) → call ≡ Ok copy → IfOk call (λ c. c ≡ made) → LooksIf (watches mark old) mark between → seen ≡ as_seen between old → OpensEither link coding copy replies direction between after former kept seen new result → OpensAs link coding made replies direction mark after former kept old new result
opens_by link coding call copy made replies direction mark between after former kept old seen new result is same looks sees opens =
    let P : Result Call AllocError → Type 0 = λ r. IfOk r (λ c. c ≡ made) in
    let Q : Call → Type 0 = λ c. OpensEither link coding c replies direction between after former kept (as_seen between old) new result in
    let V : SessionValue → Type 0 = λ v. OpensEither link coding copy replies direction between after former kept v new result in
    record { between = between; looks = looks; goes_on = subst Q (subst P is same) (subst V sees opens) }

-- a transfer that was taken back is brought to its end
pub taken_back : (link : Link) (coding : Coding) (call : Call) (transfer : TransferValue) (mark after : Option End) (old middle new : SessionValue) (answer : Answer) → TakesBack transfer mark after old middle (Ok tt) → PlaysAlone link coding call middle new answer → BringsToEnd link coding call transfer mark after old new answer
taken_back link coding call transfer mark after old middle new answer takes plays =
    elim (is_out transfer.end.number mark old) as (λ b. TakesBackIf b transfer mark after old middle (Ok tt) → BringsToEndIf b link coding call transfer mark after old new answer) [
      | true ↦ λ taken. inl (record { mark = taken.0; made = (let P : SessionValue → Type 0 = λ v. PlaysAlone link coding call v new answer in subst P taken.1 plays) })
      | false ↦ λ none. absurd none
    ] takes

-- one that wasn't
pub not_taken_back : (link : Link) (coding : Coding) (call : Call) (transfer : TransferValue) (mark after : Option End) (old new : SessionValue) (fault : FtpError) → TakesBack transfer mark after old new (Err fault) → BringsToEnd link coding call transfer mark after old new (Fault fault)
not_taken_back link coding call transfer mark after old new fault takes =
    elim (is_out transfer.end.number mark old) as (λ b. TakesBackIf b transfer mark after old new (Err fault) → BringsToEndIf b link coding call transfer mark after old new (Fault fault)) [
      | true ↦ λ without. inr without
      | false ↦ λ passes. passes
    ] takes

-- a transfer that was handed out and is live is taken back
pub takes_out : (transfer : TransferValue) (mark : Option End) (old middle : SessionValue) (number : ℕ) (out : Bool) → number ≡ transfer.end.number → out ≡ is_out number mark old → out ≡ true → middle ≡ with_data (Some transfer.told) old → TakesBack transfer mark None old middle (Ok tt)
takes_out transfer mark old middle number out numbers is out_now taken =
    let P : Bool → Type 0 = λ b. TakesBackIf b transfer mark None old middle (Ok tt) in
    let held : is_out transfer.end.number mark old ≡ true = ap (λ n. is_out n mark old) (sym numbers) ∙ sym is ∙ out_now in
    subst P (sym held) (refl, taken)

-- what follows once a receipt was looked at
abbrev pub AfterLook : Link → Coding → SessionValue → SessionValue → Answer → Result Bool FtpError → Type 0
AfterLook link coding middle new answer (Ok true) = PlaysInStep link coding Drain middle new answer
AfterLook link coding middle new answer (Ok false) = (answer ≡ Done) × (new ≡ middle)
AfterLook link coding middle new answer (Err fault) = (answer ≡ Fault fault) × (new ≡ middle)

-- a receipt is settled, by what the look at it resulted in
pub settles_by : (link : Link) (coding : Coding) (receipt : End) (old middle new : SessionValue) (answer : Answer) (begun : Result Bool FtpError) → BeginsToSettle receipt old middle begun → AfterLook link coding middle new answer begun → Settles link coding receipt old new answer
settles_by link coding receipt old middle new answer begun begins after = unless old.channel.failed begins
  where
    After : Result Bool FtpError → Type 0
    After b = AfterLook link coding middle new answer b

    owing : (b : Bool) → BeginsToSettleIf b old middle begun → SettlesIf b link coding old new answer
    owing true begins =
        let Q : SessionValue → Type 0 = λ v. PlaysInStep link coding Drain v new answer in
        subst Q begins.1 (subst After begins.0 after)
    owing false begins =
        let then = subst After begins.0 after in
        (then.0, then.1 ∙ begins.1)

    unless : (b : Bool) → BeginsToSettleUnless b receipt old middle begun → SettlesUnless b link coding receipt old new answer
    unless true begins =
        let then = subst After begins.0 after in
        (then.0, then.1 ∙ begins.1)
    unless false begins = owing (is_owed receipt.number old.state.counts.owed) begins

-- then its transfer is left
left_owed : (number : ℕ) (o : Owed) → is_owed number o ≡ true → none_left (left_of o) ≡ false
left_owed number owed.Nothing is = let clash : false ≡ true = is in cc
left_owed number (owed.Live other) is = refl
left_owed number (owed.Left other) is = refl

pub begins_left : (receipt : End) (old middle : SessionValue) → BeginsToSettle receipt old middle (Ok true) → none_left middle.state.counts.owed ≡ false
begins_left receipt old middle begins = unless old.channel.failed begins
  where
    owing : (b : Bool) → is_owed receipt.number old.state.counts.owed ≡ b → BeginsToSettleIf b old middle (Ok true) → none_left middle.state.counts.owed ≡ false
    owing true is begins = ap (λ v. none_left v.state.counts.owed) begins.1 ∙ left_owed receipt.number old.state.counts.owed is
    owing false is begins = let clash : Ok true ≡ Ok false = begins.0 in cc

    unless : (b : Bool) → BeginsToSettleUnless b receipt old middle (Ok true) → none_left middle.state.counts.owed ≡ false
    unless true begins = let clash : Ok true ≡ Err SessionFailed = begins.0 in cc
    unless false begins = owing (is_owed receipt.number old.state.counts.owed) refl begins

-- a settled transfer gives nothing
pub drain_answer_is : (result : Result (Unit {0}) FtpError) → unit_answer result ≡ drain_told result
drain_answer_is (Ok done) = refl
drain_answer_is (Err fault) = refl

-- what an opening call returns, without its reply and with it
pub opens_plain : (link : Link) (coding : Coding) (call : Call) (direction : Direction) (mark after former kept : Option End) (old new : SessionValue) (result : Result (Option Response × TransferValue) FtpError) → OpensAs link coding call false direction mark after former kept old new result → Opens link coding call direction mark after former kept old new (without_reply result)
opens_plain link coding call direction mark after former kept old new (Ok opened) opens =
    let P : Option Response → Type 0 = λ r. OpensFrom link coding call direction (as_seen opens.between old) r opened.1 after new in
    record { between = opens.between; looks = opens.looks; goes_on = (opens.goes_on.0, subst P (none opened.0 opens.goes_on.1) opens.goes_on.2) }
  where
    none : (r : Option Response) → is_none r ≡ not false → r ≡ None
    none None is = refl
    none (Some reply) is = let clash : false ≡ true = is in cc
opens_plain link coding call direction mark after former kept old new (Err fault) opens = record { between = opens.between; looks = opens.looks; goes_on = opens.goes_on }

pub opens_replied : (link : Link) (coding : Coding) (call : Call) (direction : Direction) (mark after former kept : Option End) (old new : SessionValue) (opened : Result (Option Response × TransferValue) FtpError) (result : Result (Response × TransferValue) FtpError) → opened ≡ with_reply result → OpensAs link coding call true direction mark after former kept old new opened → OpensReplied link coding call direction mark after former kept old new result
opens_replied link coding call direction mark after former kept old new opened result is opens =
    let P : Result (Option Response × TransferValue) FtpError → Type 0 = λ r. OpensAs link coding call true direction mark after former kept old new r in
    go result (subst P is opens)
  where
    go : (r : Result (Response × TransferValue) FtpError) → OpensAs link coding call true direction mark after former kept old new (with_reply r) → OpensReplied link coding call direction mark after former kept old new r
    go (Ok both) made = record { between = made.between; looks = made.looks; goes_on = (made.goes_on.0, made.goes_on.2) }
    go (Err fault) made = record { between = made.between; looks = made.looks; goes_on = made.goes_on }

-- an opening call that isn't made, since memory ran out
pub opens_withheld : (link : Link) (coding : Coding) (call : Call) (replies : Bool) (direction : Direction) (mark former : Option End) (v : SessionValue) → HandsConnection replies call → OpensEither link coding call replies direction mark mark former former v v (Err (withheld v))
opens_withheld link coding call replies direction mark former v hands =
    (refl, refl, record { answer = Fault (withheld v); given = v; plays = withheld_in_step link coding call v hands.sort.1 hands.sort.2; ends = inl (refl, refl) })

-- what an opening call returns, by what was handed over of its answer
pub hands_opens : (link : Link) (coding : Coding) (call : Call) (replies : Bool) (direction : Direction) (end : End) (mark after former kept : Option End) (old given new : SessionValue) (answer : Answer) (result : Result (Option Response × TransferValue) FtpError) → HandsConnection replies call → end.number ≡ next_number old.state.counts → PlaysInStep link coding call old given answer → HandsOver replies direction end answer mark after former kept given new result → OpensEither link coding call replies direction mark after former kept old new result
hands_opens link coding call replies direction end mark after former kept old given new answer (Ok opened) connection numbers plays hands =
    let P : Answer → Type 0 = λ a. PlaysInStep link coding call old given a in
    (hands.3, hands.1, record { given = given; plays = subst P hands.0 plays; hands = hands.4 })
hands_opens link coding call replies direction end mark after former kept old given new answer (Err fault) connection numbers plays hands =
    (hands.0, hands.1, record { answer = answer; given = given; plays = plays; ends = ends hands.2 })
  where
    opened : (IsFault answer → ⊥) → IsFault answer ⊎ (opens replies answer ≡ true) → opens replies answer ≡ true
    opened none (inl fault) = absurd (none fault)
    opened none (inr opens) = opens

    ends : ((answer ≡ Fault fault) × (new ≡ given)) ⊎ OpensNoTransfer replies end.number answer fault given new → ((answer ≡ Fault fault) × (new ≡ given)) ⊎ Strands replies (next_number old.state.counts) answer fault given new
    ends (inl failed) = inl failed
    ends (inr strays) =
        let is = opened strays.no_fault (opening_answers link replies coding call old given answer connection plays) in
        let P : ℕ → Type 0 = λ n. (is_none given.net.data_conn ≡ true) ⊎ (is_live n given.state.counts.owed ≡ false) in
        inr (record { opened = is; lacks = subst P numbers (strays.lacks is); is = strays.is; left = strays.left })

-- an opening call isn't made, after the look, since memory ran out
pub opens_out : (link : Link) (coding : Coding) (call : Call) (replies : Bool) (direction : Direction) (mark after former : Option End) (old seen : SessionValue) → LooksIf (watches mark old) mark after → seen ≡ as_seen after old → HandsConnection replies call → OpensAs link coding call replies direction mark after former former old seen (Err (withheld seen))
opens_out link coding call replies direction mark after former old seen looks sees opening =
    let R : SessionValue → Type 0 = λ v. OpensEither link coding call replies direction after after former former v seen (Err (withheld seen)) in
    record { between = after; looks = looks; goes_on = subst R sees (opens_withheld link coding call replies direction after former seen opening) }
