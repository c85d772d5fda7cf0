mod Holdings
