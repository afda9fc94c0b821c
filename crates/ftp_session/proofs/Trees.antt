-- The dialogue of each call of one command is the tree that its method names.
use Rattle.std.proofs.Common.{◌≡◌, ℕ, [], ◌∷◌, List, Option, Bool, true, false, cond, eqb, Result, Ok, Err, refl, ap, ◌∙◌, Some, None}
use Rattle.ftp_base.specs.Status.{code_of}
use Rattle.ftp_base.specs.declared.status.Status.{Status}
use Rattle.ftp_base.specs.declared.status.Status.TheVariants.{CommandOk, File, LoggedIn, RequestedFileActionOk, PathCreated, NeedPassword, RequestFilePending}
use Rattle.ftp_base.specs.declared.types.file_type.FileType.{FileType}
use Rattle.ftp_base.specs.declared.types.reply.Response.{Response}
use Rattle.ftp_base.specs.declared.types.fault.FtpError.{FtpError}
use Rattle.ftp_base.specs.declared.command.Command.{Command}
use Rattle.ftp_base.specs.declared.command.Command.TheVariants as command
use Rattle.ftp_base.specs.Command.{text_of}
use Rattle.ftp_base.specs.Wire.{wire}
use Rattle.ftp_calls.specs.Answers.{path_of, second_line_of, size_of, features_in}
use Rattle.ftp_calls.specs.Times.{time_of}
use Rattle.ftp_calls.specs.Exchanges.{drained_row, draining_row, finishes, finishing_row, is_ascii, local_row, moving_row, negotiates, opens, own_row, resyncing_row, says, reads}
use Rattle.ftp_calls.specs.declared.call.Call.{Call}
use Rattle.ftp_calls.specs.declared.call.Call.TheVariants as call
use Rattle.ftp_calls.specs.declared.call.Answer.{Answer}
use Rattle.ftp_calls.specs.declared.call.Answer.TheVariants.{Fault, Unit, Reply}
use Rattle.ftp_calls.specs.declared.exchange.Codes.{Codes}
use Rattle.ftp_calls.specs.declared.exchange.Codes.TheVariants.{One, Either, Given, Features}
use Rattle.ftp_calls.specs.declared.exchange.Ending.{Ending}
use Rattle.ftp_calls.specs.declared.exchange.Ending.TheVariants as ending
use Rattle.ftp_calls.specs.declared.exchange.Turn.TheVariants.{First}
use Rattle.ftp_dialogue.specs.declared.state.State.{State}
use Rattle.ftp_dialogue.specs.Coding.{Coding}
use Rattle.ftp_dialogue.specs.Dialogue.{Tree, Say, Hear, Leaf, accepted, after_fault_of, answer_to_fault, concluded, dialogue, doing, expected_of, features_answer, from_turn, later, line_answer, negotiating, opened_from, closing_data, path_answer, size_answer, time_answer, with_left}
use Rattle.ftp_session.specs.Trees.{feat_tree, leading, login_tree, mdtm_tree, mlst_tree, pwd_tree, read_tree, rename_tree, replied, reply_tree, resume_tree, size_tree, taken_reply, type_reply, type_tree, unit_reply, unit_tree}
use Rattle.ftp_dialogue.specs.Unanswered.{after_faulty}
use Rattle.ftp_session.proofs.Commands.{IsCommand, IsOneCommand, StopsAtFaults, plays_command}
use Rattle.ftp_calls.specs.declared.exchange.Ending.TheVariants.{Done, GivesReply}
use Rattle.ftp_calls.specs.declared.exchange.Row.{Row}
use Rattle.ftp_calls.specs.declared.exchange.Row.TheVariants.{Exchanges}
use Rattle.ftp_transfer.specs.Mark.{End}
use Rattle.ftp_dialogue.specs.Link.{Link}
use Rattle.ftp_dialogue.specs.State.{SessionValue}
use Rattle.ftp_session.specs.Handed.{PlaysSeen}
use Rattle.ftp_session.specs.Rows.{PlaysExchange, PlaysOwn, PlaysRow}

-- a command, and what is made of its reply
abbrev pub said_and : Coding → Command → Codes → (Result Response FtpError → Tree) → Tree
said_and coding command codes next = Say (wire coding.encode (text_of command)) (Hear (expected_of codes) next)

same_next : (coding : Coding) (command : Command) (codes : Codes) (next other : Result Response FtpError → Tree) → ((heard : Result Response FtpError) → next heard ≡ other heard) → said_and coding command codes next ≡ said_and coding command codes other
same_next coding command codes next other same = ap (said_and coding command codes) (λ i heard. same heard i)

-- what is made of a reply, by its ending
replies_by : (coding : Coding) (how : Ending) (answer : Response → Answer) → ((state : State) (l : State → Tree) (reply : Response) → accepted coding how state reply l ≡ Leaf (answer reply) state) → ((state : State) (fault : FtpError) → Leaf (answer_to_fault how fault) (after_fault_of how fault state) ≡ Leaf (Fault fault) state) → (state : State) (l : State → Tree) (heard : Result Response FtpError) → concluded coding how state l heard ≡ replied answer state heard
replies_by coding how answer gives fails state l (Ok reply) = gives state l reply
replies_by coding how answer gives fails state l (Err fault) = fails state fault

-- a call whose reply gives an answer
replied_command : (coding : Coding) (call : Call) (command : Command) (codes : Codes) (how : Ending) (answer : Response → Answer) → IsOneCommand call → ((state : State) → dialogue coding call state ≡ said_and coding command codes (concluded coding how state (later coding call First))) → ((state : State) (l : State → Tree) (reply : Response) → accepted coding how state reply l ≡ Leaf (answer reply) state) → ((state : State) (fault : FtpError) → Leaf (answer_to_fault how fault) (after_fault_of how fault state) ≡ Leaf (Fault fault) state) → IsCommand coding call (λ state. said_and coding command codes (replied answer state))
replied_command coding call command codes how answer sort is gives fails = record {
  sort = sort;
  same = λ state. is state ∙ same_next coding command codes (concluded coding how state (later coding call First)) (replied answer state) (replies_by coding how answer gives fails state (later coding call First));
  stops = λ state. (λ fault. (state, refl), λ reply. tt);
}

-- A call of one command and one reply

-- its dialogue is that of its row
said_once : (coding : Coding) (call : Call) (command : Command) (codes : Codes) (how : Ending) (state : State) → negotiates call ≡ false → finishes call ≡ false → own_row call true ≡ says command codes how → dialogue coding call state ≡ said_and coding command codes (concluded coding how state (later coding call First))
said_once coding call command codes how state none goes_on is =
    ap (λ b. cond b (negotiating coding call state.settings.restart_offset (opened_from call state)) (cond (finishes call) (closing_data coding call (with_left state)) (from_turn coding call First state))) none
    ∙ ap (λ b. cond b (closing_data coding call (with_left state)) (from_turn coding call First state)) goes_on
    ∙ ap (λ row. doing coding row state (later coding call First)) is

-- it gives nothing
pub unit_is : (coding : Coding) (call : Call) (command : Command) (codes : Codes) → own_row call true ≡ says command codes ending.Done → IsCommand coding call (unit_tree coding command codes)
unfolding unit_tree
unit_is coding call command codes is =
    replied_command coding call command codes ending.Done (λ reply. Unit) (ap opens is, ap local_row is, ap moving_row is, ap finishing_row is, ap drained_row is, ap draining_row is, ap resyncing_row is)
    (λ state. said_once coding call command codes ending.Done state (ap opens is) (ap finishing_row is) is) (λ state l reply. refl) (λ state fault. refl)

-- its reply is its answer
pub reply_is : (coding : Coding) (call : Call) (command : Command) (codes : Codes) → own_row call true ≡ says command codes ending.GivesReply → IsCommand coding call (reply_tree coding command codes)
unfolding reply_tree
reply_is coding call command codes is =
    replied_command coding call command codes ending.GivesReply Reply (ap opens is, ap local_row is, ap moving_row is, ap finishing_row is, ap drained_row is, ap draining_row is, ap resyncing_row is)
    (λ state. said_once coding call command codes ending.GivesReply state (ap opens is) (ap finishing_row is) is) (λ state l reply. refl) (λ state fault. refl)

-- Reads of one reply, and a setting

taken_replies : (coding : Coding) (state : State) (l : State → Tree) (heard : Result Response FtpError) → concluded coding ending.TakesReply state l heard ≡ taken_reply state heard
taken_replies coding state l (Ok reply) = refl
taken_replies coding state l (Err fault) = refl

read_is : (coding : Coding) (call : Call) (codes : Codes) → IsOneCommand call → ((state : State) → dialogue coding call state ≡ Hear (expected_of codes) (concluded coding ending.TakesReply state (later coding call First))) → IsCommand coding call (λ state. Hear (expected_of codes) (taken_reply state))
read_is coding call codes sort is = record {
  sort = sort;
  same = λ state. is state ∙ ap (λ next. Hear (expected_of codes) next) (λ i heard. taken_replies coding state (later coding call First) heard i);
  stops = λ state. (λ fault. (after_faulty fault state, refl), λ reply. tt);
}

pub read_one_is : (coding : Coding) (status : Status) → IsCommand coding (call.ReadResponse status) (read_tree (status ∷ []))
read_one_is coding status = read_is coding (call.ReadResponse status) (One status) (refl, refl, refl, refl, refl, refl, refl) (λ state. refl)

pub read_in_is : (coding : Coding) (statuses : List Status) → IsCommand coding (call.ReadResponseIn statuses) (read_tree statuses)
read_in_is coding statuses = read_is coding (call.ReadResponseIn statuses) (Given statuses) (refl, refl, refl, refl, refl, refl, refl) (λ state. refl)

pub resume_is : (coding : Coding) (offset : ℕ) → IsCommand coding (call.ResumeTransfer offset) (resume_tree offset)
resume_is coding offset = record { sort = (refl, refl, refl, refl, refl, refl, refl); same = λ state. refl; stops = λ state. tt }

-- Calls whose answer is in the reply's text

pub pwd_is : (coding : Coding) → IsCommand coding call.Pwd (pwd_tree coding)
pwd_is coding = replied_command coding call.Pwd command.Pwd (One PathCreated) ending.GivesPath (λ reply. path_answer reply (path_of coding.decode reply.body)) (refl, refl, refl, refl, refl, refl, refl) (λ state. refl) (λ state l reply. refl) (λ state fault. refl)

pub mlst_is : (coding : Coding) (path : Option (List ℕ)) → IsCommand coding (call.Mlst path) (mlst_tree coding path)
mlst_is coding path = replied_command coding (call.Mlst path) (command.Mlst path) (One RequestedFileActionOk) ending.GivesSecondLine (λ reply. line_answer (second_line_of coding.decode reply.body)) (refl, refl, refl, refl, refl, refl, refl) (λ state. refl) (λ state l reply. refl) (λ state fault. refl)

pub mdtm_is : (coding : Coding) (path : List ℕ) → IsCommand coding (call.Mdtm path) (mdtm_tree coding path)
mdtm_is coding path = replied_command coding (call.Mdtm path) (command.Mdtm path) (One File) ending.GivesTime (λ reply. time_answer (time_of reply.body)) (refl, refl, refl, refl, refl, refl, refl) (λ state. refl) (λ state l reply. refl) (λ state fault. refl)

pub size_is : (coding : Coding) (path : List ℕ) → IsCommand coding (call.Size path) (size_tree coding path)
size_is coding path = replied_command coding (call.Size path) (command.Size path) (One File) ending.GivesSize (λ reply. size_answer (size_of reply.body)) (refl, refl, refl, refl, refl, refl, refl) (λ state. refl) (λ state l reply. refl) (λ state fault. refl)

pub feat_is : (coding : Coding) → IsCommand coding call.Feat (feat_tree coding)
feat_is coding = replied_command coding call.Feat command.Feat Features ending.GivesFeatures (λ reply. features_answer (features_in reply.body)) (refl, refl, refl, refl, refl, refl, refl) (λ state. refl) (λ state l reply. refl) (λ state fault. refl)

-- A type of data

pub type_is : (coding : Coding) (kind : FileType) → IsCommand coding (call.TransferType kind) (type_tree coding kind)
type_is coding kind = record {
  sort = (refl, refl, refl, refl, refl, refl, refl);
  same = λ state. same_next coding (command.TransferType kind) (One CommandOk) (concluded coding (ending.SetsText (is_ascii kind)) state (later coding (call.TransferType kind) First)) (type_reply kind state) (replies state (later coding (call.TransferType kind) First));
  stops = λ state. (λ fault. (state, refl), λ reply. tt);
}
  where
    replies : (state : State) (l : State → Tree) (heard : Result Response FtpError) → concluded coding (ending.SetsText (is_ascii kind)) state l heard ≡ type_reply kind state heard
    replies state l (Ok reply) = refl
    replies state l (Err fault) = refl

-- Two commands, the second after a reply that leads to it

leads : (coding : Coding) (status : Status) (state : State) (l : State → Tree) (next : Tree) → l state ≡ next → (heard : Result Response FtpError) → concluded coding (ending.GoesOn status) state l heard ≡ leading status next state heard
leads coding status state l next same (Ok reply) = ap (λ tree. cond (eqb (code_of reply.status) (code_of status)) tree (Leaf Unit state)) same
leads coding status state l next same (Err fault) = refl

leading_command : (coding : Coding) (called : Call) (first second : Command) (codes last : Codes) (status : Status) → IsOneCommand called → ((state : State) → dialogue coding called state ≡ said_and coding first codes (concluded coding (ending.GoesOn status) state (later coding called First))) → ((state : State) → later coding called First state ≡ said_and coding second last (concluded coding ending.Done state (λ s. Leaf Unit s))) → IsCommand coding called (λ state. said_and coding first codes (leading status (said_and coding second last (unit_reply state)) state))
leading_command coding called first second codes last status sort is then = record {
  sort = sort;
  same = λ state.
      let next = then state ∙ same_next coding second last (concluded coding ending.Done state (λ s. Leaf Unit s)) (unit_reply state) (replies_by coding ending.Done (λ reply. Unit) (λ v l reply. refl) (λ v fault. refl) state (λ s. Leaf Unit s)) in
      is state ∙ same_next coding first codes (concluded coding (ending.GoesOn status) state (later coding called First)) (leading status (said_and coding second last (unit_reply state)) state) (leads coding status state (later coding called First) (said_and coding second last (unit_reply state)) next);
  stops = λ state. (λ fault. (state, refl), λ reply. ends state (eqb (code_of reply.status) (code_of status)));
}
  where
    ends : (state : State) (b : Bool) → StopsAtFaults (cond b (said_and coding second last (unit_reply state)) (Leaf Unit state))
    ends state true = (λ fault. (state, refl), λ reply. tt)
    ends state false = tt

pub login_is : (coding : Coding) (user password : List ℕ) → IsCommand coding (call.Login user password) (login_tree coding user password)
login_is coding user password = leading_command coding (call.Login user password) (command.User user) (command.Pass password) (Either LoggedIn NeedPassword) (One LoggedIn) NeedPassword (refl, refl, refl, refl, refl, refl, refl) (λ state. refl) (λ state. refl)

pub rename_is : (coding : Coding) (one other : List ℕ) → IsCommand coding (call.Rename one other) (rename_tree coding one other)
rename_is coding one other = leading_command coding (call.Rename one other) (command.RenameFrom one) (command.RenameTo other) (One RequestFilePending) (Either RequestedFileActionOk CommandOk) RequestFilePending (refl, refl, refl, refl, refl, refl, refl) (λ state. refl) (λ state. refl)

-- A command's method does what the row of its call says

plays_row : (link : Link) (coding : Coding) (call : Call) (mark after : Option End) (old new : SessionValue) (answer : Answer) → PlaysSeen link coding call mark after old new answer → PlaysRow (own_row call true) link coding mark after old new answer
plays_row link coding call mark after old new answer plays = by_row (own_row call true) refl
  where
    by_exchange : (said : Option Command) (codes : Codes) (how : Ending) → own_row call true ≡ Exchanges (record { says = said; hears = codes; ending = how }) → PlaysExchange said codes how link coding mark after old new answer
    by_exchange None codes how is = tt
    by_exchange (Some command) codes Done is = plays_command link coding call false (unit_tree coding command codes) mark after old new answer (unit_is coding call command codes is) (ap reads is) plays
    by_exchange (Some command) codes GivesReply is = plays_command link coding call false (reply_tree coding command codes) mark after old new answer (reply_is coding call command codes is) (ap reads is) plays
    by_exchange (Some command) codes other is = tt

    by_row : (row : Row) → own_row call true ≡ row → PlaysRow row link coding mark after old new answer
    by_row (Exchanges exchange) is = by_exchange exchange.says exchange.hears exchange.ending is
    by_row other is = tt

pub plays_own : (link : Link) (coding : Coding) (called : Call) (mark after : Option End) (old new : SessionValue) (answer : Answer) → PlaysSeen link coding called mark after old new answer → PlaysOwn called link coding mark after old new answer
plays_own link coding (call.Login user password) mark after old new answer plays = plays_command link coding (call.Login user password) false (login_tree coding user password) mark after old new answer (login_is coding user password) refl plays
plays_own link coding (call.Rename one other) mark after old new answer plays = plays_command link coding (call.Rename one other) false (rename_tree coding one other) mark after old new answer (rename_is coding one other) refl plays
plays_own link coding (call.TransferType kind) mark after old new answer plays = plays_command link coding (call.TransferType kind) false (type_tree coding kind) mark after old new answer (type_is coding kind) refl plays
plays_own link coding (call.ResumeTransfer offset) mark after old new answer plays = plays_command link coding (call.ResumeTransfer offset) false (resume_tree offset) mark after old new answer (resume_is coding offset) refl plays
plays_own link coding (call.ReadResponse status) mark after old new answer plays = plays_command link coding (call.ReadResponse status) true (read_tree (status ∷ [])) mark after old new answer (read_one_is coding status) refl plays
plays_own link coding (call.ReadResponseIn statuses) mark after old new answer plays = plays_command link coding (call.ReadResponseIn statuses) true (read_tree statuses) mark after old new answer (read_in_is coding statuses) refl plays
plays_own link coding other mark after old new answer plays = plays_row link coding other mark after old new answer plays
