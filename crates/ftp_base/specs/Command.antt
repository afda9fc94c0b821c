-- Commands: RFC 959, sections 4.1 and 5.3.1; RFC 2228, section 3 (AUTH, PBSZ, PROT, CCC); RFC 2389,
-- sections 3 and 4 (FEAT, OPTS); RFC 2428, sections 2 and 3 (EPRT, EPSV); RFC 3659, sections 3, 4, 5
-- and 7 (MDTM, SIZE, REST, MLST and MLSD).
use Rattle.std.specs.Prelude.{ℕ, List, [], ◌++◌, Option, Some, None, codes}
use Rattle.std.specs.Fmt.{decimal}
use Rattle.std.specs.Net.Text.{ip_text}
use Rattle.std.specs.Net.Socket.{socket_ip, socket_port}
use Rattle.std.specs.declared.net.ip_addr.IpAddr.{IpAddr}
use Rattle.std.specs.declared.net.ip_addr.IpAddr.TheVariants.{V4, V6}
use Rattle.std.specs.declared.net.socket_addr.SocketAddr.{SocketAddr}
use Rattle.ftp_base.specs.FileType.{type_text}
use Rattle.ftp_base.specs.declared.command.ProtectionLevel.{ProtectionLevel}
use Rattle.ftp_base.specs.declared.command.ProtectionLevel.TheVariants.{Clear, Private}
use Rattle.ftp_base.specs.declared.command.Command.{Command}
use Rattle.ftp_base.specs.declared.command.Command.TheVariants.{Abor, Appe, Auth, Cdup, ClearCommandChannel, Cwd, Dele, Eprt, Epsv, Feat, List as Listing, Mdtm, Mfmt, Mkd, Mlsd, Mlst, Nlst, Noop, Opts, Pass, Pasv, Pbsz, Port, Prot, Pwd, Quit, RenameFrom, RenameTo, Rest, Retr, Rmd, Site, Size, Store, TransferType, User, Custom}

-- a space and a text, or nothing where there is none
abbrev pub after_space : Option (List ℕ) → List ℕ
after_space None = []
after_space (Some text) = codes " " ++ text

-- the letter of a level of protection
abbrev pub level_text : ProtectionLevel → List ℕ
level_text Clear = codes "C"
level_text Private = codes "P"

-- the number of an address's family: RFC 2428, section 2
abbrev pub family_text : IpAddr → List ℕ
family_text (V4 ip) = codes "1"
family_text (V6 ip) = codes "2"

-- an address between bars: its family, its IP address (IPv6 by RFC 5952), its port
abbrev pub address_text : SocketAddr → List ℕ
address_text address =
    codes "|" ++ family_text (socket_ip address) ++ codes "|" ++ ip_text (socket_ip address)
    ++ codes "|" ++ decimal (socket_port address) ++ codes "|"

-- the text of a command without its line end
unfoldable pub words_of : Command → List ℕ
words_of Abor = codes "ABOR"
words_of (Appe file) = codes "APPE " ++ file
words_of Auth = codes "AUTH TLS"
words_of Cdup = codes "CDUP"
words_of ClearCommandChannel = codes "CCC"
words_of (Cwd directory) = codes "CWD " ++ directory
words_of (Dele file) = codes "DELE " ++ file
words_of (Eprt address) = codes "EPRT " ++ address_text address
words_of Epsv = codes "EPSV"
words_of Feat = codes "FEAT"
words_of (Listing path) = codes "LIST" ++ after_space path
words_of (Mdtm path) = codes "MDTM " ++ path
words_of (Mfmt time path) = codes "MFMT " ++ time ++ codes " " ++ path
words_of (Mkd path) = codes "MKD " ++ path
words_of (Mlsd path) = codes "MLSD" ++ after_space path
words_of (Mlst path) = codes "MLST" ++ after_space path
words_of (Nlst path) = codes "NLST" ++ after_space path
words_of Noop = codes "NOOP"
words_of (Opts name value) = codes "OPTS " ++ name ++ after_space value
words_of (Pass password) = codes "PASS " ++ password
words_of Pasv = codes "PASV"
words_of (Pbsz size) = codes "PBSZ " ++ decimal size
words_of (Port host) = codes "PORT " ++ host
words_of (Prot level) = codes "PROT " ++ level_text level
words_of Pwd = codes "PWD"
words_of Quit = codes "QUIT"
words_of (RenameFrom path) = codes "RNFR " ++ path
words_of (RenameTo path) = codes "RNTO " ++ path
words_of (Rest offset) = codes "REST " ++ decimal offset
words_of (Retr path) = codes "RETR " ++ path
words_of (Rmd path) = codes "RMD " ++ path
words_of (Site words) = codes "SITE " ++ words
words_of (Size path) = codes "SIZE " ++ path
words_of (Store path) = codes "STOR " ++ path
words_of (TransferType file_type) = codes "TYPE " ++ type_text file_type
words_of (User name) = codes "USER " ++ name
words_of (Custom line) = line

-- the text of a command, with CR LF at its end
unfoldable pub text_of : Command → List ℕ
text_of command = words_of command ++ codes "\r\n"
