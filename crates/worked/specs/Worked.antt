-- A worked list, line by line with its answers: the input and the output of the gate's run of the program (`stdin` and `stdout` of `session`).
-- Trains of each load class drive and brake at speed, are extended, called back, held, lifted and taken off, or refused it. Each answer number
-- comes up. It is computed by the definitions, from bytes to bytes (proofs/Worked: worked_list).
use Rattle.std.specs.Prelude.{ℕ, ◌-◌, true, false, List, [], ◌∷◌, ◌++◌, length, replicate}
use Rattle.motion.specs.declared.Order.TheVariants.{Drive, Brake}
use Rattle.calls.specs.declared.Opening.{Opening}
use Rattle.train.specs.declared.Train.{Train}
use Rattle.train.specs.Ranges.{settings_of}
use Rattle.train.specs.Record.{train_of}
use Rattle.table.specs.Table.{places, blank_train}
use Rattle.stream.specs.declared.Session.{Session}
use Rattle.stream.specs.Session.{session}
use Rattle.papers.specs.Exchanges.{Exchange, line, bytes_of, input_of, output_of}

-- the line that the list opens, and the session with these trains on it
abbrev pub given : Opening
given = record { end = 100000000000; safety = 100000000; ceiling = 5693627; traction = 100000 }

abbrev pub opened : List Train → Session
opened xs = session true (record { trains = xs ++ replicate (places - length xs) blank_train; settings = settings_of given; count = length xs })

-- ---- first part: the opening, three trains, every call of a train that moves

abbrev pub first_part : List Exchange
first_part =
    -- Before an accepted opening a call is 2. A line that is no call is 1: empty, code 9, a number that the call does not use, a leading zero,
    -- one column too many; without a caller, with a caller that has a leading zero, or none but spaces.
    line " 6         65535             0             0             0             0             0" " 2             0             0             0"
    ∷ line "" " 1             0             0             0"
    ∷ line " 9         65535             0             0             0             0             0" " 1             0             0             0"
    ∷ line " 6         65535             0             0             0             1             0" " 1             0             0             0"
    ∷ line " 6        065535             0             0             0             0             0" " 1             0             0             0"
    ∷ line " 6         65535             0             0             0             0             0 " " 1             0             0             0"
    ∷ line " 6         65535             0             0             0             0" " 1             0             0             0"
    ∷ line " 6         65535             0             0             0             0            00" " 1             0             0             0"
    ∷ line " 6         65535             0             0             0             0              " " 1             0             0             0"
    -- An opening by anyone but the dispatcher is 16, also with a setting out of range. A call is 2 before that, whoever calls.
    ∷ line " 1  100000000000     100000000       5693627        100000             0         70000" "16             0             0             0"
    ∷ line " 1             0     100000000       5693627        100000             0         70000" "16             0             0             0"
    ∷ line " 1  100000000000     100000000       5693627        100000             0             1" "16             0             0             0"
    ∷ line " 1  100000000000     100000000       5693627        100000             099999999999999" "16             0             0             0"
    ∷ line " 6         65535             0             0             0             0         70000" " 2             0             0             0"
    ∷ line " 3         65535             0             0             0             0             7" " 2             0             0             0"
    -- A setting out of range is 3. One opening is taken; after it each is 2, also one out of range, and one by the yard.
    ∷ line " 1 2000000000001     100000000       5693627        100000             0             0" " 3             0             0             0"
    ∷ line " 1  100000000000   20000000001       5693627        100000             0             0" " 3             0             0             0"
    ∷ line " 1  100000000000     100000000      40000001        100000             0             0" " 3             0             0             0"
    ∷ line " 1  100000000000     100000000       5693627        100001             0             0" " 3             0             0             0"
    ∷ line " 1  100000000000     100000000       5693627        100000             0             0" " 0             0             0             0"
    ∷ line " 1  100000000000     100000000       5693627        100000             0             0" " 2             0             0             0"
    ∷ line " 1             0     100000000       5693627        100000             0             0" " 2             0             0             0"
    ∷ line " 1  100000000000     100000000       5693627        100000             0         70000" " 2             0             0             0"
    -- The yard alone enters: by the dispatcher, by the train itself or by nobody it is 16, also with an id out of range.
    ∷ line " 2         65535   20000000000             1             3            10             0" "16             0             0             0"
    ∷ line " 2         65535   20000000000             1             3            10         65535" "16             0             0             0"
    ∷ line " 2         65535   20000000000             1             3            10         69999" "16             0             0             0"
    ∷ line " 2             0   20000000000             1             3            10             0" "16             0             0             0"
    -- Train 65535, unknown load, 1 ft, enters with starting number 10. Before that: id, length, load class and starting number out of range are 4,
    -- also where the head is wrong; a head below the length or beyond the line end is 7.
    ∷ line " 2             0   20000000000             1             3            10         70000" " 4             0             0             0"
    ∷ line " 2         65536   20000000000             1             3            10         70000" " 4             0             0             0"
    ∷ line " 2         65535   20000000000             0             3            10         70000" " 4             0             0             0"
    ∷ line " 2         65535   20000000000             1             4            10         70000" " 4             0             0             0"
    ∷ line " 2         65535             0             1             3    4294967296         70000" " 4             0             0             0"
    ∷ line " 2         65535       6095999             1             3            10         70000" " 7             0             0             0"
    ∷ line " 2         65535  100000000001             1             3            10         70000" " 7             0             0             0"
    ∷ line " 2         65535   20000000000             1             3            10         70000" " 0         87021           690   20000000000"
    -- Train 7, loaded, 2,345 ft, enters just the safety distance behind its rear, and train 300, empty, 5 ft, further back. One step nearer
    -- is 7. An id on the line is 5.
    ∷ line " 2         65535   10000000000          2345             1             0         70000" " 5             0             0             0"
    ∷ line " 2             7   19893904001          2345             1             0         70000" " 7             0             0             0"
    ∷ line " 2             7   19893904000          2345             1             0         70000" " 0        133303           263   19893904000"
    ∷ line " 2           300    5498784001             5             2    4294967294         70000" " 7             0             0             0"
    ∷ line " 2           300    5398784000             5             2    4294967294         70000" " 0        162039          1286    5398784000"
    -- A train that is not on the line is 8, whatever else is wrong, where the caller has the right.
    ∷ line " 3             8             0             0             0             0             8" " 8             0             0             0"
    ∷ line " 4             8             0             0             0             0             8" " 8             0             0             0"
    ∷ line " 5             8             0             0             0             0             0" " 8             0             0             0"
    ∷ line " 6             8             0             0             0             0             0" " 8             0             0             0"
    ∷ line " 7             8             0             0             0             0             0" " 8             0             0             0"
    ∷ line " 8             8             0             0             0             0         70000" " 8             0             0             0"
    -- By another caller it is 16 instead, as for a train on the line: a caller without the right does not learn which trains are there.
    ∷ line " 3             8   20000000000             0             0             0             7" "16             0             0             0"
    ∷ line " 4             8            11             1             0             0             7" "16             0             0             0"
    ∷ line " 3             8             0             0             0             0             0" "16             0             0             0"
    ∷ line " 4             8             0             0             0             0         70000" "16             0             0             0"
    ∷ line " 5             8             0             0             0             0             8" "16             0             0             0"
    ∷ line " 6             8             0             0             0             0         70000" "16             0             0             0"
    ∷ line " 7             8             0             0             0             0             8" "16             0             0             0"
    ∷ line " 8             8             0             0             0             0             0" "16             0             0             0"
    ∷ line " 8             8             0             0             0             0             8" "16             0             0             0"
    ∷ line " 3         65535   20000000000             0             0             0             7" "16             0             0             0"
    ∷ line " 4         65535            11             1             0             0             7" "16             0             0             0"
    ∷ line " 3         65535             0             0             0             0             0" "16             0             0             0"
    ∷ line " 4         65535             0             0             0             0         70000" "16             0             0             0"
    ∷ line " 5         65535             0             0             0             0         65535" "16             0             0             0"
    ∷ line " 6         65535             0             0             0             0         70000" "16             0             0             0"
    ∷ line " 7         65535             0             0             0             0         65535" "16             0             0             0"
    ∷ line " 8         65535             0             0             0             0             0" "16             0             0             0"
    ∷ line " 8         65535             0             0             0             0         65535" "16             0             0             0"
    -- A number that is no train's id has no right, though it calls for itself. Nor has one that is nobody's.
    ∷ line " 3             0             0             0             0             0             0" "16             0             0             0"
    ∷ line " 3         65536             0             0             0             0         65536" "16             0             0             0"
    ∷ line " 4         70000             1             1             0             0         70000" "16             0             0             0"
    ∷ line " 6             7             0             0             0             0         65536" "16             0             0             0"
    ∷ line " 8             7             0             0             0             0         70001" "16             0             0             0"
    -- Extending train 65535: 10 before 11, 11 up to the starting number, 13 beyond the line end. The refused number is taken afterwards. Its
    -- repeat gives the end of now, which a call back has moved; with another length it is 12.
    ∷ line " 4         65535             0             1             0             0         65535" "10             0             0             0"
    ∷ line " 4         65535    4294967296             1             0             0         65535" "10             0             0             0"
    ∷ line " 4         65535            11             0             0             0         65535" "10             0             0             0"
    ∷ line " 4         65535            10  100000000001             0             0         65535" "10             0             0             0"
    ∷ line " 4         65535            10             1             0             0         65535" "11             0             0             0"
    ∷ line " 4         65535            11   80000000001             0             0         65535" "13             0             0             0"
    ∷ line " 4         65535            11   80000000000             0             0         65535" " 0  100000000000             0             0"
    ∷ line " 5         65535   20100000000             0             0             0             0" " 0             0             0             0"
    ∷ line " 4         65535            11   80000000000             0             0         65535" " 0   20100000000             1             0"
    ∷ line " 4         65535            11             1             0             0         65535" "12             0             0             0"
    ∷ line " 4         65535            11  100000000000             0             0         65535" "12             0             0             0"
    -- Behind it there is no track yet.
    ∷ line " 4             7             1             1             0             0             7" "13             0             0             0"
    -- Train 65535 drives with the greatest traction. A report beyond the worst case, faster, or behind the last head is 9; one with speed and no
    -- travel is taken. A train that stands, but under drive, is not taken off.
    ∷ line " 3         65535   20000000000             0             0             0         65535" " 0             1        100000   20002470995"
    ∷ line " 8         65535             0             0             0             0         70000" "15             0             0             0"
    ∷ line " 3         65535   20000100001        100000             0             0         65535" " 9             0             0             0"
    ∷ line " 3         65535   20000100000        100001             0             0         65535" " 9             0             0             0"
    ∷ line " 3         65535   19999999999        100000             0             0         65535" " 9             0             0             0"
    ∷ line " 3         65535   20000100000        100000             0             0         65535" " 0             1        100000   20007021959"
    ∷ line " 3         65535   20000100000        100000             0             0         65535" " 0             1        100000   20007021959"
    -- It is extended while it moves, twice. The first of the two requests, sent once more, is 11 and adds nothing. A moving train is not taken off.
    ∷ line " 4         65535            12    4000000000             0             0         65535" " 0   24100000000             0             0"
    ∷ line " 4         65535            13      20000000             0             0         65535" " 0   24120000000             0             0"
    ∷ line " 4         65535            12    4000000000             0             0         65535" "11             0             0             0"
    ∷ line " 8         65535             0             0             0             0         70000" "15             0             0             0"
    -- Held, it has the order that it was given until its next report; then it brakes, from nothing. Lifted, it brakes on, also with more track than
    -- it could use: brake to a moving train stays on. At its first report at a stand it drives.
    ∷ line " 6         65535             0             0             0             0             0" " 0             0             0             0"
    ∷ line " 3         65535   20000400000        200000             0             0         65535" " 0             2             0   20007021959"
    ∷ line " 3         65535   20000800000        200000             0             0         65535" " 0             2             0   20007021959"
    ∷ line " 3         65535   20001199310        199310             0             0         65535" " 0             2             0   20007021959"
    ∷ line " 3         65535   20001596550        197930             0             0         65535" " 0             2             0   20007021959"
    ∷ line " 6         65535             0             0             0             0             0" " 0             0             0             0"
    ∷ line " 7         65535             0             0             0             0             0" " 0             0             0             0"
    ∷ line " 7         65535             0             0             0             0             0" " 0             0             0             0"
    ∷ line " 3         65535   20001990340        195860             0             0         65535" " 0             2             0   20007021959"
    ∷ line " 4         65535            14      20000000             0             0         65535" " 0   24140000000             0             0"
    ∷ line " 3         65535   20002379300        193100             0             0         65535" " 0             2             0   20007021959"
    ∷ line " 3         65535   20002762050             0             0             0         65535" " 0             1        100000   20005233045"
    ∷ line " 3         65535   20002862050        100000             0             0         65535" " 0             1        100000   20009784009"
    ∷ line " 3         65535   20003162050        200000             0             0         65535" " 0             1        100000   20015759102"
    ∷ line " 3         65535   20003662050        300000             0             0         65535" " 0             1        100000   20022924145"
    ∷ line " 3         65535   20004362050        400000             0             0         65535" " 0             1        100000   20031143802"
    -- A call back to behind its head or beyond its end is 14. One step short of its reach it is pending: a new number is 17, with track or
    -- without, 12 is as before, and the repeat gives the end of now, which has not moved. Called back to the reach instead, the end moves at once.
    -- The train is held, extended and lifted.
    ∷ line " 5         65535   20004362049             0             0             0             0" "14             0             0             0"
    ∷ line " 5         65535   24140000001             0             0             0             0" "14             0             0             0"
    ∷ line " 5         65535   20031143801             0             0             0             0" " 0             0             0             0"
    ∷ line " 4         65535            15             1             0             0         65535" "17             0             0             0"
    ∷ line " 4         65535            15   80000000000             0             0         65535" "17             0             0             0"
    ∷ line " 4         65535            14             1             0             0         65535" "12             0             0             0"
    ∷ line " 4         65535            14      20000000             0             0         65535" " 0   24140000000             1             0"
    ∷ line " 5         65535   20031143802             0             0             0             0" " 0             0             0             0"
    ∷ line " 6         65535             0             0             0             0             0" " 0             0             0             0"
    ∷ line " 3         65535   20005262050        500000             0             0         65535" " 0             2             0   20031143802"
    ∷ line " 3         65535   20006262050        500000             0             0         65535" " 0             2             0   20031143802"
    ∷ line " 4         65535            15   70000000000             0             0         65535" " 0   90031143802             0             0"
    ∷ line " 7         65535             0             0             0             0             0" " 0             0             0             0"
    ∷ []

-- the trains then
abbrev pub after_first : Session
after_first =
    opened
    (train_of 65535 1 (record { full = 87021; growth = 690 }) (record { head = 20006262050; speed = 500000; level = 690 }) Brake (record { end = 90031143802; goal = 90031143802; start = 10; number = 15; length = 70000000000 }) (record { held = false; penalty = true })
    ∷ train_of 7 2345 (record { full = 133303; growth = 263 }) (record { head = 19893904000; speed = 0; level = 133303 }) Brake (record { end = 19893904000; goal = 19893904000; start = 0; number = 0; length = 0 }) (record { held = false; penalty = false })
    ∷ train_of 300 5 (record { full = 162039; growth = 1286 }) (record { head = 5398784000; speed = 0; level = 162039 }) Brake (record { end = 5398784000; goal = 5398784000; start = 4294967294; number = 4294967294; length = 0 }) (record { held = false; penalty = false })
    ∷ [])

-- ---- second part: up to the speed ceiling

abbrev pub second_part : List Exchange
second_part =
    -- It still brakes. Once it stands, it drives up to the speed ceiling. The last gain is the one that is left, and at the ceiling it is 0.
    line " 3         65535   20007261360        499310             0             0         65535" " 0             2             0   20031143802"
    ∷ line " 3         65535   20008258600             0             0             0         65535" " 0             1        100000   20010729595"
    ∷ line " 3         65535   20008358600        100000             0             0         65535" " 0             1        100000   20015280559"
    ∷ line " 3         65535   20008658600        200000             0             0         65535" " 0             1        100000   20021255652"
    ∷ line " 3         65535   20009158600        300000             0             0         65535" " 0             1        100000   20028420695"
    ∷ line " 3         65535   20009858600        400000             0             0         65535" " 0             1        100000   20036640352"
    ∷ line " 3         65535   20010758600        500000             0             0         65535" " 0             1        100000   20045823316"
    ∷ line " 3         65535   20011858600        600000             0             0         65535" " 0             1        100000   20055902499"
    ∷ line " 3         65535   20013158600        700000             0             0         65535" " 0             1        100000   20066825992"
    ∷ line " 3         65535   20014658600        800000             0             0         65535" " 0             1        100000   20078552003"
    ∷ line " 3         65535   20016358600        900000             0             0         65535" " 0             1        100000   20091045958"
    ∷ line " 3         65535   20018258600       1000000             0             0         65535" " 0             1        100000   20104278600"
    ∷ line " 3         65535   20020358600       1100000             0             0         65535" " 0             1        100000   20118224845"
    ∷ line " 3         65535   20022658600       1200000             0             0         65535" " 0             1        100000   20132862756"
    ∷ line " 3         65535   20025158600       1300000             0             0         65535" " 0             1        100000   20148173058"
    ∷ line " 3         65535   20027858600       1400000             0             0         65535" " 0             1        100000   20164138490"
    ∷ line " 3         65535   20030758600       1500000             0             0         65535" " 0             1        100000   20180743625"
    ∷ line " 3         65535   20033858600       1600000             0             0         65535" " 0             1        100000   20197974494"
    ∷ line " 3         65535   20037158600       1700000             0             0         65535" " 0             1        100000   20215818372"
    ∷ line " 3         65535   20040658600       1800000             0             0         65535" " 0             1        100000   20234263611"
    ∷ line " 3         65535   20044358600       1900000             0             0         65535" " 0             1        100000   20253299501"
    ∷ line " 3         65535   20048258600       2000000             0             0         65535" " 0             1        100000   20272916145"
    ∷ line " 3         65535   20052358600       2100000             0             0         65535" " 0             1        100000   20293104360"
    ∷ line " 3         65535   20056658600       2200000             0             0         65535" " 0             1        100000   20313855590"
    ∷ line " 3         65535   20061158600       2300000             0             0         65535" " 0             1        100000   20335161838"
    ∷ line " 3         65535   20065858600       2400000             0             0         65535" " 0             1        100000   20357015665"
    ∷ line " 3         65535   20070758600       2500000             0             0         65535" " 0             1        100000   20379410042"
    ∷ line " 3         65535   20075858600       2600000             0             0         65535" " 0             1        100000   20402338309"
    ∷ line " 3         65535   20081158600       2700000             0             0         65535" " 0             1        100000   20425794263"
    ∷ line " 3         65535   20086658600       2800000             0             0         65535" " 0             1        100000   20449772002"
    ∷ line " 3         65535   20092358600       2900000             0             0         65535" " 0             1        100000   20474265875"
    ∷ line " 3         65535   20098258600       3000000             0             0         65535" " 0             1        100000   20499270645"
    ∷ line " 3         65535   20104358600       3100000             0             0         65535" " 0             1        100000   20524781172"
    ∷ line " 3         65535   20110658600       3200000             0             0         65535" " 0             1        100000   20550792723"
    ∷ line " 3         65535   20117158600       3300000             0             0         65535" " 0             1        100000   20577300618"
    ∷ line " 3         65535   20123858600       3400000             0             0         65535" " 0             1        100000   20604300548"
    ∷ line " 3         65535   20130758600       3500000             0             0         65535" " 0             1        100000   20631788228"
    ∷ line " 3         65535   20137858600       3600000             0             0         65535" " 0             1        100000   20659759705"
    ∷ line " 3         65535   20145158600       3700000             0             0         65535" " 0             1        100000   20688211069"
    ∷ line " 3         65535   20152658600       3800000             0             0         65535" " 0             1        100000   20717138618"
    ∷ line " 3         65535   20160358600       3900000             0             0         65535" " 0             1        100000   20746538832"
    ∷ line " 3         65535   20168258600       4000000             0             0         65535" " 0             1        100000   20776408213"
    ∷ line " 3         65535   20176358600       4100000             0             0         65535" " 0             1        100000   20806743493"
    ∷ line " 3         65535   20184658600       4200000             0             0         65535" " 0             1        100000   20837541515"
    ∷ line " 3         65535   20193158600       4300000             0             0         65535" " 0             1        100000   20868799149"
    ∷ line " 3         65535   20201858600       4400000             0             0         65535" " 0             1        100000   20900513446"
    ∷ line " 3         65535   20210758600       4500000             0             0         65535" " 0             1        100000   20932681567"
    ∷ line " 3         65535   20219858600       4600000             0             0         65535" " 0             1        100000   20965300724"
    ∷ line " 3         65535   20229158600       4700000             0             0         65535" " 0             1        100000   20998368201"
    ∷ line " 3         65535   20238658600       4800000             0             0         65535" " 0             1        100000   21031881418"
    ∷ line " 3         65535   20248358600       4900000             0             0         65535" " 0             1        100000   21065837868"
    ∷ line " 3         65535   20258258600       5000000             0             0         65535" " 0             1        100000   21100235111"
    ∷ line " 3         65535   20268358600       5100000             0             0         65535" " 0             1        100000   21135070746"
    ∷ line " 3         65535   20278658600       5200000             0             0         65535" " 0             1        100000   21170342471"
    ∷ line " 3         65535   20289158600       5300000             0             0         65535" " 0             1        100000   21206048057"
    ∷ line " 3         65535   20299858600       5400000             0             0         65535" " 0             1        100000   21242185334"
    ∷ line " 3         65535   20310758600       5500000             0             0         65535" " 0             1        100000   21278752693"
    ∷ line " 3         65535   20321858600       5600000             0             0         65535" " 0             1         93627   21314098974"
    ∷ line " 3         65535   20333152227       5693627             0             0         65535" " 0             1             0   21325486228"
    ∷ []

abbrev pub after_second : Session
after_second =
    opened
    (train_of 65535 1 (record { full = 87021; growth = 690 }) (record { head = 20333152227; speed = 5693627; level = 0 }) (Drive 0) (record { end = 90031143802; goal = 90031143802; start = 10; number = 15; length = 70000000000 }) (record { held = false; penalty = false })
    ∷ train_of 7 2345 (record { full = 133303; growth = 263 }) (record { head = 19893904000; speed = 0; level = 133303 }) Brake (record { end = 19893904000; goal = 19893904000; start = 0; number = 0; length = 0 }) (record { held = false; penalty = false })
    ∷ train_of 300 5 (record { full = 162039; growth = 1286 }) (record { head = 5398784000; speed = 0; level = 162039 }) Brake (record { end = 5398784000; goal = 5398784000; start = 4294967294; number = 4294967294; length = 0 }) (record { held = false; penalty = false })
    ∷ [])

-- ---- third part: down to a stand

abbrev pub third_part : List Exchange
third_part =
    -- Held at the ceiling, it brakes. The level grows by 690 with each report, to above half of full brake.
    line " 6         65535             0             0             0             0             0" " 0             0             0             0"
    ∷ line " 3         65535   20344539481       5693627             0             0         65535" " 0             2             0   21325486228"
    ∷ line " 3         65535   20355926735       5693627             0             0         65535" " 0             2             0   21325486228"
    ∷ line " 3         65535   20367313299       5692937             0             0         65535" " 0             2             0   21325486228"
    ∷ line " 3         65535   20378697793       5691557             0             0         65535" " 0             2             0   21325486228"
    ∷ line " 3         65535   20390078837       5689487             0             0         65535" " 0             2             0   21325486228"
    ∷ line " 3         65535   20401455051       5686727             0             0         65535" " 0             2             0   21325486228"
    ∷ line " 3         65535   20412825055       5683277             0             0         65535" " 0             2             0   21325486228"
    ∷ line " 3         65535   20424187469       5679137             0             0         65535" " 0             2             0   21325486228"
    ∷ line " 3         65535   20435540913       5674307             0             0         65535" " 0             2             0   21325486228"
    ∷ line " 3         65535   20446884007       5668787             0             0         65535" " 0             2             0   21325486228"
    ∷ line " 3         65535   20458215371       5662577             0             0         65535" " 0             2             0   21325486228"
    ∷ line " 3         65535   20469533625       5655677             0             0         65535" " 0             2             0   21325486228"
    ∷ line " 3         65535   20480837389       5648087             0             0         65535" " 0             2             0   21325486228"
    ∷ line " 3         65535   20492125283       5639807             0             0         65535" " 0             2             0   21325486228"
    ∷ line " 3         65535   20503395927       5630837             0             0         65535" " 0             2             0   21325486228"
    ∷ line " 3         65535   20514647941       5621177             0             0         65535" " 0             2             0   21325486228"
    ∷ line " 3         65535   20525879945       5610827             0             0         65535" " 0             2             0   21325486228"
    ∷ line " 3         65535   20537090559       5599787             0             0         65535" " 0             2             0   21325486228"
    ∷ line " 3         65535   20548278403       5588057             0             0         65535" " 0             2             0   21325486228"
    ∷ line " 3         65535   20559442097       5575637             0             0         65535" " 0             2             0   21325486228"
    ∷ line " 3         65535   20570580261       5562527             0             0         65535" " 0             2             0   21325486228"
    ∷ line " 3         65535   20581691515       5548727             0             0         65535" " 0             2             0   21325486228"
    ∷ line " 3         65535   20592774479       5534237             0             0         65535" " 0             2             0   21325486228"
    ∷ line " 3         65535   20603827773       5519057             0             0         65535" " 0             2             0   21325486228"
    ∷ line " 3         65535   20614850017       5503187             0             0         65535" " 0             2             0   21325486228"
    ∷ line " 3         65535   20625839831       5486627             0             0         65535" " 0             2             0   21325486228"
    ∷ line " 3         65535   20636795835       5469377             0             0         65535" " 0             2             0   21325486228"
    ∷ line " 3         65535   20647716649       5451437             0             0         65535" " 0             2             0   21325486228"
    ∷ line " 3         65535   20658600893       5432807             0             0         65535" " 0             2             0   21325486228"
    ∷ line " 3         65535   20669447187       5413487             0             0         65535" " 0             2             0   21325486228"
    ∷ line " 3         65535   20680254151       5393477             0             0         65535" " 0             2             0   21325486228"
    ∷ line " 3         65535   20691020405       5372777             0             0         65535" " 0             2             0   21325486228"
    ∷ line " 3         65535   20701744569       5351387             0             0         65535" " 0             2             0   21325486228"
    ∷ line " 3         65535   20712425263       5329307             0             0         65535" " 0             2             0   21325486228"
    ∷ line " 3         65535   20723061107       5306537             0             0         65535" " 0             2             0   21325486228"
    ∷ line " 3         65535   20733650721       5283077             0             0         65535" " 0             2             0   21325486228"
    ∷ line " 3         65535   20744192725       5258927             0             0         65535" " 0             2             0   21325486228"
    ∷ line " 3         65535   20754685739       5234087             0             0         65535" " 0             2             0   21325486228"
    ∷ line " 3         65535   20765128383       5208557             0             0         65535" " 0             2             0   21325486228"
    ∷ line " 3         65535   20775519277       5182337             0             0         65535" " 0             2             0   21325486228"
    ∷ line " 3         65535   20785857041       5155427             0             0         65535" " 0             2             0   21325486228"
    ∷ line " 3         65535   20796140295       5127827             0             0         65535" " 0             2             0   21325486228"
    ∷ line " 3         65535   20806367659       5099537             0             0         65535" " 0             2             0   21325486228"
    ∷ line " 3         65535   20816537753       5070557             0             0         65535" " 0             2             0   21325486228"
    ∷ line " 3         65535   20826649197       5040887             0             0         65535" " 0             2             0   21325486228"
    ∷ line " 3         65535   20836700611       5010527             0             0         65535" " 0             2             0   21325486228"
    ∷ line " 3         65535   20846690615       4979477             0             0         65535" " 0             2             0   21325486228"
    ∷ line " 3         65535   20856617829       4947737             0             0         65535" " 0             2             0   21325486228"
    ∷ line " 3         65535   20866480873       4915307             0             0         65535" " 0             2             0   21325486228"
    ∷ line " 3         65535   20876278367       4882187             0             0         65535" " 0             2             0   21325486228"
    ∷ line " 3         65535   20886008931       4848377             0             0         65535" " 0             2             0   21325486228"
    ∷ line " 3         65535   20895671185       4813877             0             0         65535" " 0             2             0   21325486228"
    ∷ line " 3         65535   20905263749       4778687             0             0         65535" " 0             2             0   21325486228"
    ∷ line " 3         65535   20914785243       4742807             0             0         65535" " 0             2             0   21325486228"
    ∷ line " 3         65535   20924234287       4706237             0             0         65535" " 0             2             0   21325486228"
    ∷ line " 3         65535   20933609501       4668977             0             0         65535" " 0             2             0   21325486228"
    ∷ line " 3         65535   20942909505       4631027             0             0         65535" " 0             2             0   21325486228"
    ∷ line " 3         65535   20952132919       4592387             0             0         65535" " 0             2             0   21325486228"
    ∷ line " 3         65535   20961278363       4553057             0             0         65535" " 0             2             0   21325486228"
    ∷ line " 3         65535   20970344457       4513037             0             0         65535" " 0             2             0   21325486228"
    ∷ line " 3         65535   20979329821       4472327             0             0         65535" " 0             2             0   21325486228"
    ∷ line " 3         65535   20988233075       4430927             0             0         65535" " 0             2             0   21325486228"
    ∷ line " 3         65535   20997052839       4388837             0             0         65535" " 0             2             0   21325486228"
    ∷ line " 3         65535   21005787733       4346057             0             0         65535" " 0             2             0   21325486228"
    ∷ line " 3         65535   21014436377       4302587             0             0         65535" " 0             2             0   21325486228"
    -- There it is called back to one step short of its reach, and to the reach instead; it is extended, lifted and held again, and it is not taken
    -- off.
    ∷ line " 5         65535   21325486227             0             0             0             0" " 0             0             0             0"
    ∷ line " 5         65535   21325486228             0             0             0             0" " 0             0             0             0"
    ∷ line " 4         65535            16             1             0             0         65535" " 0   21325486229             0             0"
    ∷ line " 4         65535            15   70000000000             0             0         65535" "11             0             0             0"
    ∷ line " 7         65535             0             0             0             0             0" " 0             0             0             0"
    ∷ line " 6         65535             0             0             0             0             0" " 0             0             0             0"
    ∷ line " 8         65535             0             0             0             0         70000" "15             0             0             0"
    -- The level grows on to full brake, 87,021, and stays there: the same once more.
    ∷ line " 3         65535   21022997391       4258427             0             0         65535" " 0             2             0   21325486228"
    ∷ line " 3         65535   21031469395       4213577             0             0         65535" " 0             2             0   21325486228"
    ∷ line " 3         65535   21039851009       4168037             0             0         65535" " 0             2             0   21325486228"
    ∷ line " 3         65535   21048140853       4121807             0             0         65535" " 0             2             0   21325486228"
    ∷ line " 3         65535   21056337547       4074887             0             0         65535" " 0             2             0   21325486228"
    ∷ line " 3         65535   21064439711       4027277             0             0         65535" " 0             2             0   21325486228"
    ∷ line " 3         65535   21072445965       3978977             0             0         65535" " 0             2             0   21325486228"
    ∷ line " 3         65535   21080354929       3929987             0             0         65535" " 0             2             0   21325486228"
    ∷ line " 3         65535   21088165223       3880307             0             0         65535" " 0             2             0   21325486228"
    ∷ line " 3         65535   21095875467       3829937             0             0         65535" " 0             2             0   21325486228"
    ∷ line " 3         65535   21103484281       3778877             0             0         65535" " 0             2             0   21325486228"
    ∷ line " 3         65535   21110990285       3727127             0             0         65535" " 0             2             0   21325486228"
    ∷ line " 3         65535   21118392099       3674687             0             0         65535" " 0             2             0   21325486228"
    ∷ line " 3         65535   21125688343       3621557             0             0         65535" " 0             2             0   21325486228"
    ∷ line " 3         65535   21132877637       3567737             0             0         65535" " 0             2             0   21325486228"
    ∷ line " 3         65535   21139958601       3513227             0             0         65535" " 0             2             0   21325486228"
    ∷ line " 3         65535   21146929855       3458027             0             0         65535" " 0             2             0   21325486228"
    ∷ line " 3         65535   21153790019       3402137             0             0         65535" " 0             2             0   21325486228"
    ∷ line " 3         65535   21160537713       3345557             0             0         65535" " 0             2             0   21325486228"
    ∷ line " 3         65535   21167171557       3288287             0             0         65535" " 0             2             0   21325486228"
    ∷ line " 3         65535   21173690171       3230327             0             0         65535" " 0             2             0   21325486228"
    ∷ line " 3         65535   21180092175       3171677             0             0         65535" " 0             2             0   21325486228"
    ∷ line " 3         65535   21186376189       3112337             0             0         65535" " 0             2             0   21325486228"
    ∷ line " 3         65535   21192540833       3052307             0             0         65535" " 0             2             0   21325486228"
    ∷ line " 3         65535   21198584727       2991587             0             0         65535" " 0             2             0   21325486228"
    ∷ line " 3         65535   21204506491       2930177             0             0         65535" " 0             2             0   21325486228"
    ∷ line " 3         65535   21210304745       2868077             0             0         65535" " 0             2             0   21325486228"
    ∷ line " 3         65535   21215978109       2805287             0             0         65535" " 0             2             0   21325486228"
    ∷ line " 3         65535   21221525203       2741807             0             0         65535" " 0             2             0   21325486228"
    ∷ line " 3         65535   21226944647       2677637             0             0         65535" " 0             2             0   21325486228"
    ∷ line " 3         65535   21232235061       2612777             0             0         65535" " 0             2             0   21325486228"
    ∷ line " 3         65535   21237395065       2547227             0             0         65535" " 0             2             0   21325486228"
    ∷ line " 3         65535   21242423279       2480987             0             0         65535" " 0             2             0   21325486228"
    ∷ line " 3         65535   21247318323       2414057             0             0         65535" " 0             2             0   21325486228"
    ∷ line " 3         65535   21252078817       2346437             0             0         65535" " 0             2             0   21325486228"
    ∷ line " 3         65535   21256703381       2278127             0             0         65535" " 0             2             0   21325486228"
    ∷ line " 3         65535   21261190635       2209127             0             0         65535" " 0             2             0   21325486228"
    ∷ line " 3         65535   21265539199       2139437             0             0         65535" " 0             2             0   21325486228"
    ∷ line " 3         65535   21269747693       2069057             0             0         65535" " 0             2             0   21325486228"
    ∷ line " 3         65535   21273814737       1997987             0             0         65535" " 0             2             0   21325486228"
    ∷ line " 3         65535   21277738951       1926227             0             0         65535" " 0             2             0   21325486228"
    ∷ line " 3         65535   21281518955       1853777             0             0         65535" " 0             2             0   21325486228"
    ∷ line " 3         65535   21285153369       1780637             0             0         65535" " 0             2             0   21325486228"
    ∷ line " 3         65535   21288640813       1706807             0             0         65535" " 0             2             0   21325486228"
    ∷ line " 3         65535   21291979907       1632287             0             0         65535" " 0             2             0   21325486228"
    ∷ line " 3         65535   21295169271       1557077             0             0         65535" " 0             2             0   21325486228"
    ∷ line " 3         65535   21298207525       1481177             0             0         65535" " 0             2             0   21325486228"
    ∷ line " 3         65535   21301093289       1404587             0             0         65535" " 0             2             0   21325486228"
    ∷ line " 3         65535   21303825183       1327307             0             0         65535" " 0             2             0   21325486228"
    ∷ line " 3         65535   21306401827       1249337             0             0         65535" " 0             2             0   21325486228"
    ∷ line " 3         65535   21308821841       1170677             0             0         65535" " 0             2             0   21325486228"
    ∷ line " 3         65535   21311083845       1091327             0             0         65535" " 0             2             0   21325486228"
    ∷ line " 3         65535   21313186459       1011287             0             0         65535" " 0             2             0   21325486228"
    ∷ line " 3         65535   21315128303        930557             0             0         65535" " 0             2             0   21325486228"
    ∷ line " 3         65535   21316907997        849137             0             0         65535" " 0             2             0   21325486228"
    ∷ line " 3         65535   21318524161        767027             0             0         65535" " 0             2             0   21325486228"
    ∷ line " 3         65535   21319975415        684227             0             0         65535" " 0             2             0   21325486228"
    ∷ line " 3         65535   21321260379        600737             0             0         65535" " 0             2             0   21325486228"
    ∷ line " 3         65535   21322377673        516557             0             0         65535" " 0             2             0   21325486228"
    ∷ line " 3         65535   21323325917        431687             0             0         65535" " 0             2             0   21325486228"
    ∷ line " 3         65535   21324103731        346127             0             0         65535" " 0             2             0   21325486228"
    ∷ line " 3         65535   21324709735        259877             0             0         65535" " 0             2             0   21325486228"
    ∷ line " 3         65535   21325142549        172937             0             0         65535" " 0             2             0   21325486228"
    ∷ line " 5         65535   21325486227             0             0             0             0" " 0             0             0             0"
    ∷ line " 5         65535   21325486228             0             0             0             0" " 0             0             0             0"
    ∷ line " 4         65535            17      20000000             0             0         65535" " 0   21345486228             0             0"
    ∷ line " 4         65535            16             1             0             0         65535" "11             0             0             0"
    ∷ line " 7         65535             0             0             0             0             0" " 0             0             0             0"
    ∷ line " 6         65535             0             0             0             0             0" " 0             0             0             0"
    ∷ line " 8         65535             0             0             0             0         70000" "15             0             0             0"
    -- It stands, slower than the level at last.
    ∷ line " 3         65535   21325401402         85916             0             0         65535" " 0             2             0   21325486228"
    ∷ line " 3         65535   21325486228             0             0             0         65535" " 0             2             0   21325486228"
    ∷ line " 3         65535   21325486228             0             0             0         65535" " 0             2             0   21325486228"
    ∷ []

abbrev pub after_third : Session
after_third =
    opened
    (train_of 65535 1 (record { full = 87021; growth = 690 }) (record { head = 21325486228; speed = 0; level = 87021 }) Brake (record { end = 21345486228; goal = 21345486228; start = 10; number = 17; length = 20000000 }) (record { held = true; penalty = false })
    ∷ train_of 7 2345 (record { full = 133303; growth = 263 }) (record { head = 19893904000; speed = 0; level = 133303 }) Brake (record { end = 19893904000; goal = 19893904000; start = 0; number = 0; length = 0 }) (record { held = false; penalty = false })
    ∷ train_of 300 5 (record { full = 162039; growth = 1286 }) (record { head = 5398784000; speed = 0; level = 162039 }) Brake (record { end = 5398784000; goal = 5398784000; start = 4294967294; number = 4294967294; length = 0 }) (record { held = false; penalty = false })
    ∷ [])

-- ---- fourth part: the trains behind, 32 of them, and the first one taken off

abbrev pub fourth_part : List Exchange
fourth_part =
    -- Train 7 has track now. Where its end leaves just not enough for the greatest traction, it gets a little less.
    line " 4             7             1       3876886             0             0             7" " 0   19897780886             0             0"
    ∷ line " 3             7   19893904000             0             0             0             7" " 0             1         99990   19897780886"
    ∷ line " 6             7             0             0             0             0             0" " 0             0             0             0"
    ∷ line " 3             7   19894003990         99990             0             0             7" " 0             2             0   19897780886"
    ∷ line " 3             7   19894203970         99990             0             0             7" " 0             2             0   19897780886"
    ∷ line " 3             7   19894403687         99727             0             0             7" " 0             2             0   19897780886"
    ∷ line " 3             7   19894602615         99201             0             0             7" " 0             2             0   19897780886"
    ∷ line " 3             7   19894800228         98412             0             0             7" " 0             2             0   19897780886"
    ∷ line " 3             7   19894996000         97360             0             0             7" " 0             2             0   19897780886"
    ∷ line " 8             7             0             0             0             0         70000" "15             0             0             0"
    -- Train 300 takes the greatest request number, up to its limit. After it no number is new. It drives, and brakes to a stand.
    ∷ line " 4           300    4294967294             1             0             0           300" "11             0             0             0"
    ∷ line " 4           300    4294967295     101092001             0             0           300" "13             0             0             0"
    ∷ line " 4           300    4294967295     101092000             0             0           300" " 0    5499876000             0             0"
    ∷ line " 4           300             1             1             0             0           300" "11             0             0             0"
    ∷ line " 3           300    5398784000             0             0             0           300" " 0             1        100000    5400648107"
    -- Called back to one step short of its reach, it goes on to stand there: the call back is pending until then, and the end becomes its head.
    ∷ line " 5           300    5400648106             0             0             0             0" " 0             0             0             0"
    ∷ line " 6           300             0             0             0             0             0" " 0             0             0             0"
    ∷ line " 4           300    4294967295     101092000             0             0           300" " 0    5499876000             1             0"
    ∷ line " 3           300    5398884000        100000             0             0           300" " 0             2             0    5400648107"
    ∷ line " 3           300    5399084000        100000             0             0           300" " 0             2             0    5400648107"
    ∷ line " 3           300    5399282714         98714             0             0           300" " 0             2             0    5400648107"
    ∷ line " 3           300    5399477570         96142             0             0           300" " 0             2             0    5400648107"
    ∷ line " 3           300    5399665996         92284             0             0           300" " 0             2             0    5400648107"
    ∷ line " 3           300    5399845420         87140             0             0           300" " 0             2             0    5400648107"
    ∷ line " 3           300    5400013270         80710             0             0           300" " 0             2             0    5400648107"
    ∷ line " 3           300    5400166974         72994             0             0           300" " 0             2             0    5400648107"
    ∷ line " 3           300    5400303960         63992             0             0           300" " 0             2             0    5400648107"
    ∷ line " 3           300    5400421656         53704             0             0           300" " 0             2             0    5400648107"
    ∷ line " 3           300    5400517490         42130             0             0           300" " 0             2             0    5400648107"
    ∷ line " 3           300    5400588890         29270             0             0           300" " 0             2             0    5400648107"
    ∷ line " 3           300    5400633284         15124             0             0           300" " 0             2             0    5400648107"
    ∷ line " 3           300    5400648107             0             0             0           300" " 0             2             0    5400648107"
    ∷ line " 4           300    4294967295     101092000             0             0           300" " 0    5400648107             1             0"
    -- 29 trains more of 1 ft, each just the safety distance behind the one before: 32 on the line. One more is 6, but 4 and 5 come first.
    ∷ line " 2          1001    5270168107             1             1             0         70000" " 0        133303          1057    5270168107"
    ∷ line " 2          1002    5164072107             1             2             0         70000" " 0        162039          1286    5164072107"
    ∷ line " 2          1003    5057976107             1             3             0         70000" " 0         87021           690    5057976107"
    ∷ line " 2          1004    4951880107             1             1             0         70000" " 0        133303          1057    4951880107"
    ∷ line " 2          1005    4845784107             1             2             0         70000" " 0        162039          1286    4845784107"
    ∷ line " 2          1006    4739688107             1             3             0         70000" " 0         87021           690    4739688107"
    ∷ line " 2          1007    4633592107             1             1             0         70000" " 0        133303          1057    4633592107"
    ∷ line " 2          1008    4527496107             1             2             0         70000" " 0        162039          1286    4527496107"
    ∷ line " 2          1009    4421400107             1             3             0         70000" " 0         87021           690    4421400107"
    ∷ line " 2          1010    4315304107             1             1             0         70000" " 0        133303          1057    4315304107"
    ∷ line " 2          1011    4209208107             1             2             0         70000" " 0        162039          1286    4209208107"
    ∷ line " 2          1012    4103112107             1             3             0         70000" " 0         87021           690    4103112107"
    ∷ line " 2          1013    3997016107             1             1             0         70000" " 0        133303          1057    3997016107"
    ∷ line " 2          1014    3890920107             1             2             0         70000" " 0        162039          1286    3890920107"
    ∷ line " 2          1015    3784824107             1             3             0         70000" " 0         87021           690    3784824107"
    ∷ line " 2          1016    3678728107             1             1             0         70000" " 0        133303          1057    3678728107"
    ∷ line " 2          1017    3572632107             1             2             0         70000" " 0        162039          1286    3572632107"
    ∷ line " 2          1018    3466536107             1             3             0         70000" " 0         87021           690    3466536107"
    ∷ line " 2          1019    3360440107             1             1             0         70000" " 0        133303          1057    3360440107"
    ∷ line " 2          1020    3254344107             1             2             0         70000" " 0        162039          1286    3254344107"
    ∷ line " 2          1021    3148248107             1             3             0         70000" " 0         87021           690    3148248107"
    ∷ line " 2          1022    3042152107             1             1             0         70000" " 0        133303          1057    3042152107"
    ∷ line " 2          1023    2936056107             1             2             0         70000" " 0        162039          1286    2936056107"
    ∷ line " 2          1024    2829960107             1             3             0         70000" " 0         87021           690    2829960107"
    ∷ line " 2          1025    2723864107             1             1             0         70000" " 0        133303          1057    2723864107"
    ∷ line " 2          1026    2617768107             1             2             0         70000" " 0        162039          1286    2617768107"
    ∷ line " 2          1027    2511672107             1             3             0         70000" " 0         87021           690    2511672107"
    ∷ line " 2          1028    2405576107             1             1             0         70000" " 0        133303          1057    2405576107"
    ∷ line " 2          1029    2299480107             1             2             0         70000" " 0        162039          1286    2299480107"
    ∷ line " 2          1030             0             1             1             0         70000" " 6             0             0             0"
    ∷ line " 2          1030    2193384107             1             0             0         70000" " 4             0             0             0"
    ∷ line " 2          1029    2193384107             1             1             0         70000" " 5             0             0             0"
    -- Only the first train is taken off. Then there is room, and the train behind it may go to the line end.
    ∷ line " 8             7             0             0             0             0         70000" "15             0             0             0"
    ∷ line " 8         65535             0             0             0             0         70000" " 0             0             0             0"
    ∷ line " 8         65535             0             0             0             0         70000" " 8             0             0             0"
    ∷ line " 2         65535    2193384107             1             1             0         70000" " 0        133303          1057    2193384107"
    ∷ line " 2          1030    2087288107             1             1             0         70000" " 6             0             0             0"
    ∷ line " 4             7             2   80102219115             0             0             7" "13             0             0             0"
    ∷ line " 4             7             2   80102219114             0             0             7" " 0  100000000000             0             0"
    -- Train 7 is lifted, and has all that track. It moves, so it brakes on.
    ∷ line " 7             7             0             0             0             0             0" " 0             0             0             0"
    ∷ line " 3             7   19895189405         96045             0             0             7" " 0             2             0   19897780886"
    -- It is called back to its head, and then to a place further on, which takes the place of the first: a new number is 17. Reported slower, it
    -- will stop short of that place: the end moves there, while the train moves and brakes on. The number is taken then.
    ∷ line " 5             7   19895189405             0             0             0             0" " 0             0             0             0"
    ∷ line " 5             7   19896000000             0             0             0             0" " 0             0             0             0"
    ∷ line " 4             7             3             1             0             0             7" "17             0             0             0"
    ∷ line " 3             7   19895370000         40000             0             0             7" " 0             2             0   19895931879"
    ∷ line " 4             7             2   80102219114             0             0             7" " 0   19896000000             1             0"
    ∷ line " 4             7             3             1             0             0             7" " 0   19896000001             0             0"
    -- In the new stay nothing of the earlier one counts: number 1 is new, and there is no track.
    ∷ line " 4         65535             1             1             0             0         65535" "13             0             0             0"
    -- 200 empty lines. The answers to 92 have more bytes than one read; of 200, so many stand in one read wherever the reads cut.
    ∷ replicate 200 (line "" " 1             0             0             0")

-- the last line has no line feed
abbrev pub unfinished : Exchange
unfinished = line " 7             7             0             0             0             0             0" " 1             0             0             0"

-- ---- the whole

abbrev pub worked_input : List ℕ
worked_input = input_of first_part ++ (input_of second_part ++ (input_of third_part ++ (input_of fourth_part ++ bytes_of unfinished.input)))

abbrev pub worked_output : List ℕ
worked_output = (((output_of first_part ++ output_of second_part) ++ output_of third_part) ++ output_of fourth_part) ++ output_of (unfinished ∷ [])
