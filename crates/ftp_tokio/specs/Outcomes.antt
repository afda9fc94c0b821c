-- What a connect and an accept result in.
use Rattle.std.specs.Prelude.{◌≡◌, Bool, Option, Some, None, Result, Ok, Err, IfOk, false}
use Rattle.std.specs.Option.{option_map, unwrap_or}
use Rattle.std.specs.IoError.{error_kind}
use Rattle.std.specs.declared.io.Error.{Error}
use Rattle.std.specs.declared.net.socket_addr.SocketAddr.{SocketAddr}
use Rattle.ftp_base.specs.declared.types.fault.ConnectionError.{ConnectionError}
use Rattle.ftp_base.specs.declared.types.fault.ConnectionError.TheVariants.{Io}
use Rattle.tokio.specs.declared.net.stream.TcpStream.{TcpStream}
use Rattle.ftp_tokio.specs.declared.conn.TokioConn.{TokioConn}
use Rattle.ftp_tokio.specs.declared.transport.TokioTransport.{TokioTransport}
use Rattle.ftp_tokio.specs.declared.watch.Limit.{Limit}
use Rattle.ftp_tokio.specs.declared.watch.Watch.{Watch}

-- no limit
abbrev pub no_watch : Watch
no_watch = record { timing = None }

-- the limit, if there is one
abbrev pub limit_of : Watch → Option Limit
limit_of watch = option_map (λ timing. timing.value.limit) watch.timing

-- whether a wait was found to last longer than the limit
abbrev pub is_late : Watch → Bool
is_late watch = unwrap_or (option_map (λ timing. timing.value.late) watch.timing) false

-- the connection over a socket that is connected, on which nothing waits, without a limit
abbrev pub conn_over : TcpStream → TokioConn
conn_over stream = record { stream = Some stream; read_waits = false; write_waits = false; reads = 0; writes = 0; read_error = None; read_watch = no_watch; write_watch = no_watch }

-- an error of the system is an error of its kind
abbrev pub with_fault : {A : Type 0} → Result A Error → Result A ConnectionError
with_fault (Ok value) = Ok value
with_fault (Err error) = Err (Io (error_kind error))

-- what a connect returns
abbrev pub connected_as : Result TcpStream Error → Result TokioConn ConnectionError
connected_as (Ok stream) = Ok (conn_over stream)
connected_as (Err error) = Err (Io (error_kind error))

-- what an accept returns
abbrev pub accepted_as : Result (TcpStream × SocketAddr) Error → Result (TokioConn × SocketAddr) ConnectionError
accepted_as (Ok (stream, peer)) = Ok (conn_over stream, peer)
accepted_as (Err error) = Err (Io (error_kind error))

-- the reads and writes of a transport's sockets may wait for ever
abbrev pub HasNoLimits : TokioTransport → Type 0
HasNoLimits transport = (transport.limits.read ≡ None) × (transport.limits.write ≡ None)

-- a connect whose limits could be set returns its socket, and one that failed its error
abbrev pub ComesAs : Result TcpStream Error → Result TokioConn ConnectionError → Type 0
ComesAs (Ok stream) made = IfOk made (λ conn. conn.stream ≡ Some stream)
ComesAs (Err error) made = made ≡ Err (Io (error_kind error))
