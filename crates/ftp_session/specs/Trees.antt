-- The dialogues of commands, a tree each: RFC 959, sections 4.1 and 5.4; RFC 2389; RFC 2428; RFC 3659.
use Rattle.std.specs.Prelude.{ℕ, ◌==◌, List, [], ◌∷◌, Option, Result, Ok, Err, if◌then◌else◌}
use Rattle.ftp_base.specs.declared.status.Status.{Status}
use Rattle.ftp_base.specs.declared.status.Status.TheVariants.{CommandOk, System, File, ClosingDataConnection, LoggedIn, RequestedFileActionOk, PathCreated, NeedPassword, RequestFilePending}
use Rattle.ftp_base.specs.Status.{code_of}
use Rattle.ftp_base.specs.declared.types.reply.Response.{Response}
use Rattle.ftp_base.specs.declared.types.file_type.FileType.{FileType}
use Rattle.ftp_base.specs.declared.types.fault.FtpError.{FtpError}
use Rattle.ftp_base.specs.declared.command.Command.{Command}
use Rattle.ftp_base.specs.declared.command.Command.TheVariants as command
use Rattle.ftp_base.specs.Command.{text_of}
use Rattle.ftp_base.specs.Wire.{wire}
use Rattle.ftp_control.specs.declared.control.form.ReplyForm.TheVariants.{Features}
use Rattle.ftp_calls.specs.Answers.{path_of, second_line_of, size_of, features_in}
use Rattle.ftp_calls.specs.Times.{time_of}
use Rattle.ftp_calls.specs.Exchanges.{is_ascii}
use Rattle.ftp_calls.specs.declared.exchange.Codes.{Codes}
use Rattle.ftp_calls.specs.declared.call.Answer.{Answer}
use Rattle.ftp_calls.specs.declared.call.Answer.TheVariants.{Unit, Reply, Fault}
use Rattle.ftp_dialogue.specs.declared.state.State.{State}
use Rattle.ftp_dialogue.specs.Coding.{Coding}
use Rattle.ftp_dialogue.specs.Unanswered.{after_faulty, answered_by}
use Rattle.ftp_dialogue.specs.Dialogue.{Tree, Say, Hear, Leaf, armed, drain_answer, expected_of, expecting, features_answer, line_answer, path_answer, size_answer, time_answer, wants_memory, with_drained}

-- an accepted reply gives this answer, an error is the answer; the state stays
abbrev pub replied : (Response → Answer) → State → Result Response FtpError → Tree
replied answer state (Ok reply) = Leaf (answer reply) state
replied answer state (Err fault) = Leaf (Fault fault) state

-- an accepted reply gives nothing, or is the answer
abbrev pub unit_reply : State → Result Response FtpError → Tree
unit_reply state = replied (λ reply. Unit) state

abbrev pub whole_reply : State → Result Response FtpError → Tree
whole_reply state = replied Reply state

-- a reply of this status leads to another command, another accepted one gives nothing
abbrev pub leading : Status → Tree → State → Result Response FtpError → Tree
leading status next state (Ok reply) = if code_of reply.status == code_of status then next else Leaf Unit state
leading status next state (Err fault) = Leaf (Fault fault) state

-- a command is sent, and one reply of these statuses is read
abbrev pub command_tree : Coding → Command → List Status → (Result Response FtpError → Tree) → Tree
command_tree coding command statuses next = Say (wire coding.encode (text_of command)) (Hear (expecting statuses) next)

-- a command and one reply, which gives nothing, or is the answer
unfoldable pub unit_tree : Coding → Command → Codes → State → Tree
unit_tree coding command codes state = Say (wire coding.encode (text_of command)) (Hear (expected_of codes) (unit_reply state))

unfoldable pub reply_tree : Coding → Command → Codes → State → Tree
reply_tree coding command codes state = Say (wire coding.encode (text_of command)) (Hear (expected_of codes) (whole_reply state))

-- the last reply of a transfer that was left, 226 or 250; one of another status ends it as well: RFC 959, section 5.4.
-- Where memory runs out for it, it is still owed
abbrev pub drain_reply : State → Result Response FtpError → Tree
drain_reply state (Ok reply) = Leaf Unit (with_drained state)
drain_reply state (Err fault) = Leaf (drain_answer fault) (if wants_memory fault then state else with_drained state)

abbrev pub drain_tree : State → Tree
drain_tree state = Hear (expecting (ClosingDataConnection ∷ RequestedFileActionOk ∷ [])) (drain_reply state)

-- Access control: RFC 959, section 4.1.1

-- PASS, 230; and before it USER, 230, or 331 where a password is asked for
abbrev pub pass_tree : Coding → List ℕ → State → Tree
pass_tree coding password state = command_tree coding (command.Pass password) (LoggedIn ∷ []) (unit_reply state)

abbrev pub login_tree : Coding → List ℕ → List ℕ → State → Tree
login_tree coding user password state =
    command_tree coding (command.User user) (LoggedIn ∷ NeedPassword ∷ []) (leading NeedPassword (pass_tree coding password state) state)

-- Transfer parameters: RFC 959, section 4.1.2; RFC 2428, section 2

-- TYPE, 200; after it transfers are of text where the type is ASCII
abbrev pub type_reply : FileType → State → Result Response FtpError → Tree
type_reply kind state (Ok reply) = Leaf Unit (record state { settings = record state.settings { text = is_ascii kind } })
type_reply kind state (Err fault) = Leaf (Fault fault) state

abbrev pub type_tree : Coding → FileType → State → Tree
type_tree coding kind state = command_tree coding (command.TransferType kind) (CommandOk ∷ []) (type_reply kind state)

-- Services: RFC 959, section 4.1.3; RFC 2389, sections 3 and 4; RFC 3659, sections 3, 4, 5 and 7

-- RNTO, 250 or 200; and before it RNFR, 350
abbrev pub rename_to_tree : Coding → List ℕ → State → Tree
rename_to_tree coding path state = command_tree coding (command.RenameTo path) (RequestedFileActionOk ∷ CommandOk ∷ []) (unit_reply state)

abbrev pub rename_tree : Coding → List ℕ → List ℕ → State → Tree
rename_tree coding one other state =
    command_tree coding (command.RenameFrom one) (RequestFilePending ∷ []) (leading RequestFilePending (rename_to_tree coding other state) state)

-- PWD, 257
abbrev pub pwd_tree : Coding → State → Tree
pwd_tree coding state =
    command_tree coding command.Pwd (PathCreated ∷ []) (replied (λ reply. path_answer reply (path_of coding.decode reply.body)) state)

-- MLST, 250
abbrev pub mlst_tree : Coding → Option (List ℕ) → State → Tree
mlst_tree coding path state =
    command_tree coding (command.Mlst path) (RequestedFileActionOk ∷ []) (replied (λ reply. line_answer (second_line_of coding.decode reply.body)) state)

-- MDTM, 213
abbrev pub mdtm_tree : Coding → List ℕ → State → Tree
mdtm_tree coding path state = command_tree coding (command.Mdtm path) (File ∷ []) (replied (λ reply. time_answer (time_of reply.body)) state)

-- SIZE, 213
abbrev pub size_tree : Coding → List ℕ → State → Tree
size_tree coding path state = command_tree coding (command.Size path) (File ∷ []) (replied (λ reply. size_answer (size_of reply.body)) state)

-- FEAT, 211, which a list may follow
abbrev pub feat_tree : Coding → State → Tree
feat_tree coding state =
    Say (wire coding.encode (text_of command.Feat)) (Hear (record { form = Features; statuses = System ∷ [] }) (replied (λ reply. features_answer (features_in reply.body)) state))

-- the offset of the next REST; nothing is sent
abbrev pub resume_tree : ℕ → State → Tree
resume_tree offset state = Leaf Unit (armed offset state)

-- The caller's lines and reads

-- one reply of these statuses, which is that of a command that was dropped where one is due; nothing is sent
abbrev pub taken_reply : State → Result Response FtpError → Tree
taken_reply state (Ok reply) = Leaf (Reply reply) (answered_by reply state)
taken_reply state (Err fault) = Leaf (Fault fault) (after_faulty fault state)

abbrev pub read_tree : List Status → State → Tree
read_tree statuses state = Hear (expecting statuses) (taken_reply state)
