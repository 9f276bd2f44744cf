-- Worked values of the definitions of segments, at a tick of 10 ns (42949672960) and one of 2 ns (8589934592).
use Rattle.std.proofs.Common.{◌≡◌, false, List, [], ◌∷◌, refl}
use Rattle.qo_timer.specs.Calls.{TimerCall, pre, update, read, write}
use Rattle.qo_timer.specs.Segments.{marks, segments}
use Rattle.qo_timer.specs.Sum.{total_ticks}

-- 25 ns under the first period, and 5 ns under the second
two_periods : List TimerCall
two_periods =
    write 1 99 0 42949672960 ∷ write 0 1 0 42949672960 ∷ pre 25 42949672960 ∷ update 25 ∷ read 2 30 8589934592 ∷ []

-- the second segment is open
two_segments :
    segments (marks false two_periods) 30 8589934592
    ≡ record { from = 0; to = 25; period = 42949672960 } ∷ record { from = 25; to = 30; period = 8589934592 } ∷ []
unfolding two_periods
two_segments = refl

-- two ticks of each
four_ticks : total_ticks (marks false two_periods) 30 8589934592 ≡ 4
unfolding two_periods
four_ticks = refl

-- after a fall of CTRL the ended segment stays, until CTRL rises again
fallen : segments (marks false (write 0 1 0 7 ∷ write 0 0 10 7 ∷ [])) 30 7 ≡ record { from = 0; to = 10; period = 7 } ∷ []
fallen = refl

risen_again :
    segments (marks false (write 0 1 0 7 ∷ write 0 0 10 7 ∷ write 0 1 20 7 ∷ [])) 30 7
    ≡ record { from = 20; to = 30; period = 7 } ∷ []
risen_again = refl

-- between a Pre and its Update no segment is open
between : segments (marks false (write 0 1 0 7 ∷ pre 10 7 ∷ [])) 30 9 ≡ record { from = 0; to = 10; period = 7 } ∷ []
between = refl
