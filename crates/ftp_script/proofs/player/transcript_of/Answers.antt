use Rattle.std.proofs.Common.{◌≡◌, ◌∙◌, ◌∷◌, [], ◌++◌, ◌-◌, ◌+◌, sym, ap, refl, subst, ◌<◌, ◌≤◌, length, take, get_or}
use Rattle.std.proofs.lemmas.List.{take_all, take_more}
use Rattle.ftp_calls.specs.declared.call.Call.TheVariants.{Greet}
use Rattle.ftp_control.specs.Channel.{untaken}
use Rattle.ftp_script.specs.Shown.{end_text}
use Rattle.ftp_script.proofs.Making.{Makes-same, Makes-snoc}
use Rattle.ftp_script.proofs.player.transcript_of.Goals as goal

pub loop-call-preserved : goal.loop-call-preserved
loop-call-preserved c =
    let i = c.loop-call.call-index in
    let calls = c.args.script.now.calls in
    let call = c.call-item.result in
    let (begun, begins, makes) = c.loop-call.invariant.made in
    let (made, grown, one) = c.in_ok-push_made-2.ensures.makes in
    let items = c.as_slice-call-items.ensures in
    let less = subst (λ l. i < length l) items c.loop-call-test.true in
    let is : call ≡ get_or calls i call = c.call-item.is ∙ ap (λ l. get_or l i call) items in
    let taken = ap (λ l. Greet ∷ l) (ap (λ a. take i calls ++ a ∷ []) is ∙ sym (take_more calls i call less)) in
    record {
      encoding = ap (λ e. e.0) c.in_ok-push_made-2.ensures.keeps.encoding ∙ c.loop-call.invariant.encoding;
      builder = c.in_ok-push_made-2.ensures.keeps.builder ∙ c.loop-call.invariant.builder;
      mark = c.in_ok-push_made-2.ensures.mark;
      made = (
        begun,
        begins,
        Makes-same (Greet ∷ (take i calls ++ call ∷ [])) (Greet ∷ take (i + 1) calls) begun c.push_made-in-loop-call.new.session.machine
            (c.loop-call.text.items ++ made) c.push_made-in-loop-call.new.text.items taken (sym grown)
            (Makes-snoc (Greet ∷ take i calls) call begun c.loop-call.session.machine c.push_made-in-loop-call.new.session.machine c.loop-call.text.items made makes one),
      );
    }

pub returns : goal.returns
returns c =
    let i = c.loop-call.call-index in
    let calls = c.args.script.now.calls in
    let session = c.loop-call.session.machine in
    let text = c.loop-call.text.items in
    let (begun, begins, makes) = c.loop-call.invariant.made in
    let received : c.received-received.result ≡ length session.channel.told.received = c.received-received.ensures ∙ ap (λ t. length t.received) c.get_ref.ensures in
    let left : c.untaken.result ≡ length (untaken session.channel) = c.untaken.ensures.value in
    let taken : c.saturating_sub.result ≡ length session.channel.told.received - length (untaken session.channel) =
    c.saturating_sub.ensures ∙ ap (λ n. n - c.untaken.result) received ∙ ap (λ n. length session.channel.told.received - n) left in
    let all = subst (λ l. length l ≤ i) c.as_slice-call-items.ensures c.loop-call-test.false in
    record {
      begun = begun;
      begins = begins;
      ended = session;
      calls = text;
      makes = Makes-same (Greet ∷ take i calls) (Greet ∷ calls) begun session text text (ap (λ l. Greet ∷ l) (take_all i calls all)) refl makes;
      is = c.in_ok-push_end.ensures ∙ ap (λ n. text ++ end_text n) taken;
    }
