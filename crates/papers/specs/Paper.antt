-- Three sessions, the files in docs/session: document 01's, an example for document 02, (ii), and one for (v) at the desk. They are computed by
-- the definitions, from bytes to bytes (proofs/Paper: worked_session, penalty_session_lem, desk_session_lem).
use Rattle.std.specs.Prelude.{List, [], ◌∷◌}
use Rattle.papers.specs.Exchanges.{Exchange, line}

-- document 01's, with the report that is taken and both call-back examples, as document 02, (i), has it worked out again
abbrev pub paper_session : List Exchange
paper_session =
    line " 1  200000000000    8000000000      26822400          3726             0             0" " 0             0             0             0"
    ∷ line " 2             7   14295120000          2345             1             0         70000" " 0        133303           263   14295120000"
    ∷ line " 3             7   14295120000             0             0             0             7" " 0             1             0   14295120000"
    ∷ line " 4             7             1         20000             0             0             7" " 0   14295140000             0             0"
    ∷ line " 4             7             1         20000             0             0             7" " 0   14295140000             1             0"
    ∷ line " 3             7   14295120000             0             0             0             7" " 0             1          2534   14295139993"
    ∷ line " 3             7   14295122538          2537             0             0             7" " 9             0             0             0"
    ∷ line " 3             7   14295122534          2534             0             0             7" " 0             2             0   14295139993"
    ∷ line " 5             7   14295139993             0             0             0             0" " 0             0             0             0"
    ∷ line " 5             7   14295139992             0             0             0             0" " 0             0             0             0"
    ∷ []

-- an example for document 02, (ii), which has none, on the same line: after the brake at speed 2,534 the report of 100 gets brake too, where
-- document 01 had drive with 2,176. Reported with speed 0, the train drives.
abbrev pub penalty_session : List Exchange
penalty_session =
    line " 1  200000000000    8000000000      26822400          3726             0             0" " 0             0             0             0"
    ∷ line " 2             7   14295120000          2345             1             0         70000" " 0        133303           263   14295120000"
    ∷ line " 4             7             1         20000             0             0             7" " 0   14295140000             0             0"
    ∷ line " 3             7   14295120000             0             0             0             7" " 0             1          2534   14295139993"
    ∷ line " 3             7   14295122534          2534             0             0             7" " 0             2             0   14295139993"
    ∷ line " 3             7   14295122634           100             0             0             7" " 0             2             0   14295122673"
    ∷ line " 3             7   14295122634             0             0             0             7" " 0             1          2285   14295139993"
    ∷ []

-- an example for document 02, (v), which has none either, on the same line, at the desk: the dispatcher tries to call train 7 back, first to a place
-- short of its reach and then to the reach, and does so
abbrev pub desk_session : List Exchange
desk_session =
    line " 1  200000000000    8000000000      26822400          3726             0             0" " 0             0             0             0             0             0             0             0             0             0             0             1             0             0             0             0             0             0             0             0"
    ∷ line " 2             7   14295120000          2345             1             0         70000" " 0        133303           263   14295120000             7          2345        133303           263   14295120000             0        133303             2             0   14295120000             0             0             0             0             0   14295120000"
    ∷ line " 3             7   14295120000             0             0             0             7" " 0             1             0   14295120000             7          2345        133303           263   14295120000             0        133303             1             0   14295120000             0             0             0             0             0   14295120000"
    ∷ line " 4             7             1         20000             0             0             7" " 0   14295140000             0             0             7          2345        133303           263   14295120000             0        133303             1             0   14295140000             0             1         20000             0             0   14295140000"
    ∷ line " 3             7   14295120000             0             0             0             7" " 0             1          2534   14295139993             7          2345        133303           263   14295120000             0             0             1          2534   14295140000             0             1         20000             0             0   14295140000"
    ∷ line "55             7   14295130000             0             0             0             0" " 0             0             0             0             7          2345        133303           263   14295120000             0             0             1          2534   14295140000             0             1         20000             0             0   14295130000"
    ∷ line "55             7   14295139993             0             0             0             0" " 0             0             0             0             7          2345        133303           263   14295120000             0             0             1          2534   14295139993             0             1         20000             0             0   14295139993"
    ∷ line " 5             7   14295139993             0             0             0             0" " 0             0             0             0             7          2345        133303           263   14295120000             0             0             1          2534   14295139993             0             1         20000             0             0   14295139993"
    ∷ []
