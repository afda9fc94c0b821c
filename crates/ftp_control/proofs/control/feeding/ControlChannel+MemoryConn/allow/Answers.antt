use Rattle.ftp_control.proofs.control.feeding.ControlChannel+MemoryConn.allow.Goals as goal

pub invariant_of-self : goal.invariant_of-self
invariant_of-self c =
    let held = c.self.invariant in
    let fits = c.allow.ensures.fits in
    rw c.allow.ensures.widened
    (record {
      under_way = held.under_way;
      within = held.within;
      over = held.over;
      sound = record {
        waits = held.sound.waits;
        kept = held.sound.kept;
        ahead = held.sound.ahead;
        lines = held.sound.lines;
        ended = held.sound.ended;
        fits = λ h. rw c.allow.ensures.widened at fits (held.sound.fits h);
      };
    })
